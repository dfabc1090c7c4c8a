-- No page has two lists of pieces.
use Rattle.std.proofs.Common.{◌≡◌, ◌≢◌, ℕ, ◌⊎◌, inl, inr, ⊎_elim, List, [], ◌∷◌, ◌++◌, refl, sym, ap, ◌∙◌, append_assoc}
use Rattle.adp_parse.specs.declared.piece.Piece.{Piece}
use Rattle.adp_parse.specs.declared.piece.Piece.TheVariants.{Text, Script, Words}
use Rattle.adp_parse.specs.Marks.{closing, Holds}
use Rattle.adp_parse.specs.Pieces.{block, marked, joined, OpensBlock, BeginsWithText, IsWords, EachIsPiece, ArePiecesOf}
use Rattle.adp_parse.specs.Finding.{same_first, opening_differs, closing_differs}
use Rattle.adp_parse.specs.PiecesOf.{pieces_of, pieces_of-are}

-- where a text and what follows it begin with a mark, and what follows is nothing or begins a mark itself, the text has that mark whole
mark_within : (a b : ℕ) → a ≢ b → (text after rest : List ℕ) → text ≢ [] → (after ≡ []) ⊎ ((t : List ℕ) × (after ≡ a ∷ t)) → text ++ after ≡ a ∷ b ∷ rest → (u : List ℕ) × (text ≡ a ∷ b ∷ u) × (u ++ after ≡ rest)
mark_within a b differ [] after rest some begins e = absurd (some refl)
mark_within a b differ (x ∷ []) after rest some begins e =
    let second : after ≡ b ∷ rest = cc in
    ⊎_elim (λ (none : after ≡ []). absurd (cc)) (λ (m : (t : List ℕ) × (after ≡ a ∷ t)). let is = m.1 in absurd (differ (cc))) begins
mark_within a b differ (x ∷ y ∷ u) after rest some begins e = (u, (cc), (cc))

-- pieces that don't begin with a text are none or begin with `<`
block_begins : (later : List Piece) → ¬ BeginsWithText later → (joined later ≡ []) ⊎ ((t : List ℕ) × (joined later ≡ 60 ∷ t))
block_begins [] alone = inl refl
block_begins (Text text ∷ later) alone = absurd (alone tt)
block_begins (Script script ∷ later) alone = inr (_, refl)
block_begins (Words words ∷ later) alone = inr (_, refl)

-- a text can't stand where a block begins: it would open that block
over_block : (text : List ℕ) (later : List Piece) (content rest : List ℕ) → text ≢ [] → ¬ BeginsWithText later → text ++ joined later ≡ block content ++ rest → OpensBlock text (joined later)
over_block text later content rest some alone e =
    let w = mark_within 60 37 opening_differs text (joined later) ((content ++ closing) ++ rest) some (block_begins later alone) e in
    record {
      before = [];
      behind = w.0;
      opens = w.1;
      closes = record { before = content; behind = rest; whole = w.2 ∙ append_assoc content closing rest };
    }

-- a text opens what its rest opens
opens-later : (x : ℕ) (text after : List ℕ) → OpensBlock text after → OpensBlock (x ∷ text) after
opens-later x text after o = record { before = x ∷ o.before; behind = o.behind; opens = ap (λ t. x ∷ t) o.opens; closes = o.closes }

-- pieces that don't begin with a text make nothing, or a block and more
block_in_front : (later : List Piece) → ¬ BeginsWithText later → (joined later ≡ []) ⊎ ((content : List ℕ) × (rest : List ℕ) × (joined later ≡ block content ++ rest))
block_in_front [] alone = inl refl
block_in_front (Text text ∷ later) alone = absurd (alone tt)
block_in_front (Script script ∷ later) alone = inr (script, joined later, refl)
block_in_front (Words words ∷ later) alone = inr (marked words, joined later, refl)

-- a text with a byte more than the one beside it would open the block that follows that one
longer : (y : ℕ) (text : List ℕ) (p q : List Piece) → ¬ BeginsWithText p → ¬ BeginsWithText q → joined p ≡ (y ∷ text) ++ joined q → OpensBlock (y ∷ text) (joined q)
longer y text p q alone alone_too e =
    ⊎_elim
    (λ (none : joined p ≡ []). absurd (cc))
    (λ (found : (content : List ℕ) × (rest : List ℕ) × (joined p ≡ block content ++ rest)).
    over_block (y ∷ text) q found.0 found.1 (λ e. cc) alone_too (sym e ∙ found.2))
    (block_in_front p alone)

-- two texts at one place are the same
one_text : (text other : List ℕ) (p q : List Piece) → ¬ BeginsWithText p → ¬ BeginsWithText q → ¬ OpensBlock text (joined p) → ¬ OpensBlock other (joined q) → text ++ joined p ≡ other ++ joined q → (text ≡ other) × (joined p ≡ joined q)
one_text [] [] p q alone alone_too plain plain_too e = (refl, e)
one_text [] (y ∷ other) p q alone alone_too plain plain_too e = absurd (plain_too (longer y other p q alone alone_too e))
one_text (x ∷ text) [] p q alone alone_too plain plain_too e = absurd (plain (longer x text q p alone_too alone (sym e)))
one_text (x ∷ text) (y ∷ other) p q alone alone_too plain plain_too e =
    let head : x ≡ y = cc in
    let rest : text ++ joined p ≡ other ++ joined q = cc in
    let later = one_text text other p q alone alone_too (λ o. plain (opens-later x text (joined p) o)) (λ o. plain_too (opens-later y other (joined q) o)) rest in
    (ap (λ t. x ∷ t) later.0 ∙ ap (λ n. n ∷ other) head, later.1)

-- two blocks at one place are the same
one_block : (content other rest later : List ℕ) → ¬ Holds content closing → ¬ Holds other closing → block content ++ rest ≡ block other ++ later → (content ≡ other) × (rest ≡ later)
one_block content other rest later none none_too e =
    let inside : (content ++ closing) ++ rest ≡ (other ++ closing) ++ later = cc in
    same_first 37 62 closing_differs content other rest later none none_too (sym (append_assoc content closing rest) ∙ inside ∙ append_assoc other closing later)

-- a mark that doesn't begin with this byte is in the rest
behind_other : (x a b : ℕ) → x ≢ a → (text before behind : List ℕ) → x ∷ text ≡ before ++ (a ∷ b ∷ behind) → Holds text (a ∷ b ∷ [])
behind_other x a b differ text [] behind e = absurd (differ (cc))
behind_other x a b differ text (y ∷ before) behind e =
    record { before = before; behind = behind; whole = let rest : text ≡ before ++ (a ∷ b ∷ behind) = cc in rest }

equals_differs : ◌≢◌ {A = ℕ} 61 37
equals_differs = λ e. cc

-- a block of words has no `%>` in it, the `=` included
words_open : (words : List ℕ) → IsWords words → ¬ Holds (marked words) closing
words_open words is = λ h. is.no_end (behind_other 61 37 62 equals_differs words h.before h.behind h.whole)

-- a text is something
text_is_some : (text rest : List ℕ) → text ≢ [] → [] ≡ text ++ rest → ⊥
text_is_some [] rest some e = some refl
text_is_some (x ∷ text) rest some e = cc

-- lists of pieces that make the same page are the same
same : (p q : List Piece) → EachIsPiece p → EachIsPiece q → joined p ≡ joined q → p ≡ q
same [] [] each each_too e = refl
same [] (Text text ∷ q) each each_too e = absurd (text_is_some text (joined q) each_too.0.some e)
same [] (Script script ∷ q) each each_too e = absurd (cc)
same [] (Words words ∷ q) each each_too e = absurd (cc)
same (Text text ∷ p) [] each each_too e = absurd (text_is_some text (joined p) each.0.some (sym e))
same (Script script ∷ p) [] each each_too e = absurd (cc)
same (Words words ∷ p) [] each each_too e = absurd (cc)
same (Text text ∷ p) (Text other ∷ q) each each_too e =
    let one = one_text text other p q each.0.alone each_too.0.alone each.0.plain each_too.0.plain e in
    let rest = same p q each.1 each_too.1 one.1 in
    ap (λ t. Text t ∷ p) one.0 ∙ ap (λ l. Text other ∷ l) rest
same (Text text ∷ p) (Script script ∷ q) each each_too e = absurd (each.0.plain (over_block text p script (joined q) each.0.some each.0.alone e))
same (Text text ∷ p) (Words words ∷ q) each each_too e = absurd (each.0.plain (over_block text p (marked words) (joined q) each.0.some each.0.alone e))
same (Script script ∷ p) (Text text ∷ q) each each_too e =
    absurd (each_too.0.plain (over_block text q script (joined p) each_too.0.some each_too.0.alone (sym e)))
same (Words words ∷ p) (Text text ∷ q) each each_too e =
    absurd (each_too.0.plain (over_block text q (marked words) (joined p) each_too.0.some each_too.0.alone (sym e)))
same (Script script ∷ p) (Script other ∷ q) each each_too e =
    let one = one_block script other (joined p) (joined q) each.0.no_end each_too.0.no_end e in
    let rest = same p q each.1 each_too.1 one.1 in
    ap (λ t. Script t ∷ p) one.0 ∙ ap (λ l. Script other ∷ l) rest
same (Script script ∷ p) (Words words ∷ q) each each_too e =
    absurd (each.0.unmarked words (one_block script (marked words) (joined p) (joined q) each.0.no_end (words_open words each_too.0) e).0)
same (Words words ∷ p) (Script script ∷ q) each each_too e =
    absurd (each_too.0.unmarked words (one_block script (marked words) (joined q) (joined p) each_too.0.no_end (words_open words each.0) (sym e)).0)
same (Words words ∷ p) (Words other ∷ q) each each_too e =
    let one = one_block (marked words) (marked other) (joined p) (joined q) (words_open words each.0) (words_open other each_too.0) e in
    let content : words ≡ other = let all : 61 ∷ words ≡ 61 ∷ other = one.0 in cc in
    let rest = same p q each.1 each_too.1 one.1 in
    ap (λ t. Words t ∷ p) content ∙ ap (λ l. Words other ∷ l) rest

-- the pieces of a page are those that `pieces_of` names
pub the_pieces : (page : List ℕ) (list : List Piece) → ArePiecesOf page list → list ≡ pieces_of page
the_pieces page list are =
    let named = pieces_of-are page in
    same list (pieces_of page) are.each named.each (are.whole ∙ sym named.whole)
