use Rattle.std.proofs.Common.{◌≡◌, ℕ, List, [], ◌∷◌, Bool, true, false, slice_index_or, codes, decimal, refl, sym, ap, ◌∙◌, arith}
use Rattle.std.specs.Prelude.{bytes_eq, not}
use Rattle.std.proofs.lemmas.Fmt.{decimal_injective}
use Rattle.std.proofs.lemmas.Slice.Eq.{bytes_eq-Decides}
use Rattle.ns_server.proofs.WordsLemmas.{two_words}
use Rattle.ns_server.proofs.program.requests_asked.Goals as goal
use Rattle.ns_server.proofs.program.requests_asked.Goals.{then-requests-lt1-via-then-requests-lt1, then-requests-lt1-via-else-requests-lt1+then-requests-from}

not_false : (b : Bool) → not b ≡ false → b ≡ true
not_false true e = refl
not_false false e = absurd (cc)

pub returns-then-requests-lt1 : goal.returns-then-requests-lt1
returns-then-requests-lt1 c = λ requests asks.
    let two = two_words c.as_slice.result.now c.word-item.result c.count-item.result c.in-len2.len_at_least c.in-len2.len_below c.word-item.is c.count-item.is in
    let word : c.count-item.result ≡ decimal requests = ap (λ (w : List (List ℕ)). slice_index_or w 1 []) (sym two ∙ c.as_slice.ensures ∙ asks.words_are) in
    let same : c.in_ok-requests.requests ≡ requests =
    decimal_injective c.in_ok-requests.requests requests (omega (arith, c.in_ok-requests.ensures.0)) (omega (arith, asks.few)) (sym c.in_ok-requests.ensures.1 ∙ c.bytes-2.ensures ∙ word)
    in
    elim c.then-requests-lt1.branch [
      | then-requests-lt1-via-then-requests-lt1 w ↦ omega (arith, same, asks.some, w.if-requests-lt1.true)
      | then-requests-lt1-via-else-requests-lt1+then-requests-from w ↦ omega (arith, same, asks.few, w.from.ensures, w.if-requests-from.true)
    ]

pub returns : goal.returns
returns c =
    let two = two_words c.as_slice.result.now c.word-item.result c.count-item.result c.in-len2.len_at_least c.in-len2.len_below c.word-item.is c.count-item.is in
    let load : c.bytes.result.now ≡ codes "load" = (bytes_eq-Decides c.bytes.result.now (codes "load")).0 (not_false (bytes_eq c.bytes.result.now (codes "load")) (sym c.ne.ensures ∙ c.if-ne.false)) in
    record {
      words_are = sym c.as_slice.ensures ∙ two
          ∙ ap (λ (w : List ℕ). w ∷ c.count-item.result ∷ []) (sym c.bytes.ensures ∙ load)
          ∙ ap (λ (w : List ℕ). codes "load" ∷ w ∷ []) (sym c.bytes-2.ensures ∙ c.in_ok-requests.ensures.1);
      some = omega (arith, c.if-requests-lt1.false);
      few = omega (arith, c.from.ensures, c.if-requests-from.false);
    }
