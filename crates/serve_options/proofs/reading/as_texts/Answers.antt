use Rattle.std.proofs.Common.{◌≡◌, ◌∙◌, ℕ, ◌+◌, ◌<◌, ◌≤◌, ap, ap₂, arith, take, List, [], ◌∷◌, ◌++◌, get_or, length, map, rules, subst, sym}
use Rattle.std.specs.List.{All}
use Rattle.std.specs.Str.{IsUtf8}
use Rattle.std.proofs.lemmas.List.{map_push, take_more}
use Rattle.std.proofs.Math.Seq.{take-length}
use Rattle.std.proofs.lemmas.List.Elements.{All-get_or, All-push}
use Rattle.serve_options.proofs.reading.as_texts.Goals as goal

-- a word that isn't so is one of the words, so not all are
refuses : (P : List ℕ → Type 0) (words slice : List (List ℕ)) (word bytes : List ℕ) (at : ℕ)
    → slice ≡ words → at < length slice → word ≡ get_or slice at word → bytes ≡ word
    → (P bytes → ⊥) → All P words → ⊥
refuses P words slice word bytes at same lt is read refused all =
    let here : P (get_or slice at word) = All-get_or P slice at word lt (subst (All P) (sym same) all) in
    refused (subst P (sym read) (subst P (sym is) here))

pub returns-in-Err-clause-refused : goal.returns-in-Err-clause-refused
returns-in-Err-clause-refused c = λ bad all. refuses IsUtf8 c.args.words.now c.as_slice-word-items.result.now c.word-item.result c.bytes.result.now
    c.loop-word.word-index c.as_slice-word-items.ensures c.loop-word-test.true c.word-item.is c.bytes.ensures c.in-Err.ensures.cases.0 all

next_same : {A : Type 0} (f : A → List ℕ) (texts new : List A) (text : A) (words slice : List (List ℕ)) (word bytes : List ℕ) (at : ℕ)
    → slice ≡ words → at < length slice → word ≡ get_or slice at word → bytes ≡ word → f text ≡ bytes → new ≡ texts ++ text ∷ []
    → map f texts ≡ take at words → map f new ≡ take (at + 1) words
next_same f texts new text words slice word bytes at same lt is read shown more before =
    ap (map f) more ∙ map_push f texts text
    ∙ ap₂ (λ front last. front ++ last ∷ []) before (shown ∙ read ∙ is ∙ ap (λ ws. get_or ws at word) same)
    ∙ sym (take_more words at word (subst (λ ws. at < length ws) same lt))

whole : (texts words slice : List (List ℕ)) (at : ℕ) → slice ≡ words → length slice ≤ at → at ≤ length slice → texts ≡ take at words → texts ≡ words
whole texts words slice at same least most is =
    let end : at ≡ length slice = omega (arith, least, most) in
    is ∙ ap (λ n. take n words) (end ∙ ap length same) ∙ take-length words

pub loop-word-preserved : goal.loop-word-preserved
loop-word-preserved c =
    let items : c.push.new.self.items ≡ c.loop-word.texts.items ++ c.in-Ok.text ∷ [] = search rules in
    let utf8 : IsUtf8 c.in-Ok.text.now = subst IsUtf8 (sym c.in-Ok.ensures.cases.0) c.in-Ok.ensures.cases.1 in
    record {
      same = next_same (λ s. s.now) c.loop-word.texts.items c.push.new.self.items c.in-Ok.text c.args.words.now c.as_slice-word-items.result.now
          c.word-item.result c.bytes.result.now c.loop-word.word-index c.as_slice-word-items.ensures c.loop-word-test.true c.word-item.is
          c.bytes.ensures c.in-Ok.ensures.cases.0 items c.loop-word.invariant.same;
      utf8 = subst (λ ts. All IsUtf8 (map (λ s. s.now) ts)) (sym items)
          (subst (All IsUtf8) (sym (map_push (λ s. s.now) c.loop-word.texts.items c.in-Ok.text)) (All-push IsUtf8 _ _ c.loop-word.invariant.utf8 utf8));
    }

pub returns-clause-texts : goal.returns-clause-texts
returns-clause-texts c =
    whole _ c.args.words.now c.as_slice-word-items.result.now c.loop-word.word-index c.as_slice-word-items.ensures c.loop-word-test.false
    c.loop-word.auto.word-index-end c.loop-word.invariant.same

pub returns-clause-utf8 : goal.returns-clause-utf8
returns-clause-utf8 c =
    subst (All IsUtf8) (whole _ c.args.words.now c.as_slice-word-items.result.now c.loop-word.word-index c.as_slice-word-items.ensures c.loop-word-test.false
    c.loop-word.auto.word-index-end c.loop-word.invariant.same) c.loop-word.invariant.utf8
