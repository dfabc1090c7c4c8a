-- What the readers give, from what the readers inside them give.
use Rattle.std.proofs.Common.{◌≡◌, ◌≢◌, ℕ, zero, suc, ◌+◌, ◌-◌, List, [], ◌∷◌, ◌++◌, length, Bool, true, false, ◌<◌, ◌⊎◌, inl, inr, refl, ap, sym, subst, arith, add-one}
use Rattle.tcl_parse.specs.declared.fault.Kind.{Kind}
use Rattle.tcl_parse.specs.declared.fault.Kind.TheVariants.{Quote, Brace, Bracket, Variable, Extra, Deep}
use Rattle.tcl_parse.specs.Gaps.{skip, between, ends_word}
use Rattle.tcl_parse.specs.Braces.{BracedAt}
use Rattle.tcl_parse.specs.Laws.Braces.{braced, plain, braced_at}
use Rattle.tcl_parse.specs.Tree.{Part, element, bracket, Word, Script, parts, commands, literal}
use Rattle.tcl_parse.specs.Names.{part_by, element_parts, named_part}
use Rattle.tcl_parse.specs.Outcome.{Outcome, done, fault, put}
use Rattle.std.proofs.Common.{Option, Some, None}
use Rattle.tcl_parse.specs.Steps.{Mode, quotes, index, Substitution, named, indexed, opened, unnamed, substituted, next}
use Rattle.tcl_parse.specs.Grammar.{PartIs, PartsAt, bad_part, one_part, ScriptAt, EnclosedAt, in_braces, in_quotes, WordAt, enclosed, followed, InBracket, InIndex, close_bracket, close_index, close_brace, close_quote}
use Rattle.tcl_parse.specs.Answers.{BraceGives, BracketGives, IndexGives, QuoteGives}
use Rattle.tcl_parse.proofs.Front.{joined, joined-part, IsInner}

one_less : (k : ℕ) → suc k - 1 ≡ k
one_less k = omega arith

in_bracket : (room : ℕ) (t : List ℕ) (o : Outcome Script) → room ≢ 0 → ScriptAt (InBracket (room - 1)) (InIndex (room - 1)) true (skip between t) o → InBracket room t o
unfolding InBracket
in_bracket zero t o ne h = absurd (ne refl)
in_bracket (suc room) t o ne h = rw one_less at h

in_index : (room : ℕ) (t : List ℕ) (o : Outcome Word) → room ≢ 0 → PartsAt (InBracket (room - 1)) (InIndex (room - 1)) index t o → InIndex room t o
unfolding InIndex
in_index zero t o ne h = absurd (ne refl)
in_index (suc room) t o ne h = rw one_less at h

pub deep_bracket : (room : ℕ) (t : List ℕ) → room ≡ 0 → BracketGives room t (fault Deep (length t + 1))
unfolding InBracket
deep_bracket zero t e = (fault Deep (length t + 1), refl, refl)
deep_bracket (suc room) t e = absurd (omega arith)

pub deep_index : (room left : ℕ) (x t : List ℕ) → room ≡ 0 → IndexGives room left x t (fault Deep (length t + 1))
unfolding InIndex
deep_index zero left x t e = (fault Deep (length t + 1), refl, refl)
deep_index (suc room) left x t e = absurd (omega arith)

pub bracket_fault : (room : ℕ) (t : List ℕ) (k : Kind) (n : ℕ) → room ≢ 0 → ScriptAt (InBracket (room - 1)) (InIndex (room - 1)) true (skip between t) (fault k n) → BracketGives room t (fault k n)
bracket_fault room t k n ne h = (fault k n, in_bracket room t (fault k n) ne h, refl)

pub bracket_open : (room : ℕ) (t r : List ℕ) (s : Script) → room ≢ 0 → length r ≡ 0 → ScriptAt (InBracket (room - 1)) (InIndex (room - 1)) true (skip between t) (done s r) → BracketGives room t (fault Bracket (length t + 1))
bracket_open room t [] s ne e h = (done s [], in_bracket room t (done s []) ne h, refl)
bracket_open room t (b ∷ r) s ne e h = absurd (omega arith)

pub bracket_closed : (room b : ℕ) (t r u : List ℕ) (s : Script) (p : Part) → room ≢ 0 → r ≡ b ∷ u → p ≡ bracket (commands s) → ScriptAt (InBracket (room - 1)) (InIndex (room - 1)) true (skip between t) (done s r) → BracketGives room t (done p u)
bracket_closed room b t r u s p ne er ep h = (done s (b ∷ u), in_bracket room t (done s (b ∷ u)) ne (rw er at h), ap (λ q. done q u) ep)

pub index_fault : (room left : ℕ) (x t : List ℕ) (k : Kind) (n : ℕ) → room ≢ 0 → PartsAt (InBracket (room - 1)) (InIndex (room - 1)) index t (fault k n) → IndexGives room left x t (fault k n)
index_fault room left x t k n ne h = (fault k n, in_index room t (fault k n) ne h, refl)

pub index_open : (room left : ℕ) (x t r : List ℕ) (w : Word) → room ≢ 0 → length r ≡ 0 → PartsAt (InBracket (room - 1)) (InIndex (room - 1)) index t (done w r) → IndexGives room left x t (fault Variable left)
index_open room left x t [] w ne e h = (done w [], in_index room t (done w []) ne h, refl)
index_open room left x t (b ∷ r) w ne e h = absurd (omega arith)

pub index_closed : (room left b : ℕ) (x t r u : List ℕ) (w : Word) (p : Part) → room ≢ 0 → r ≡ b ∷ u → p ≡ element x (parts w) → PartsAt (InBracket (room - 1)) (InIndex (room - 1)) index t (done w r) → IndexGives room left x t (done p u)
index_closed room left b x t r u w p ne er ep h = (done w (b ∷ u), in_index room t (done w (b ∷ u)) ne (rw er at h), ap (λ q. done q u) ep)

pub quote_open : (room : ℕ) (t r : List ℕ) (w : Word) → length r ≡ 0 → PartsAt (InBracket room) (InIndex room) quotes t (done w r) → QuoteGives room t (fault Quote (length t + 1))
quote_open room t [] w e h = (done w [], h, refl)
quote_open room t (b ∷ r) w e h = absurd (omega arith)

pub brace_none : (t : List ℕ) → None ≡ braced plain 0 t → BraceGives t (fault Brace (length t + 1))
brace_none t e = (None, subst (BracedAt t) (sym e) (braced_at t), refl)

pub brace_some : (t bs r : List ℕ) (w : Word) → Some (bs, r) ≡ braced plain 0 t → w ≡ literal bs [] → BraceGives t (done w r)
brace_some t bs r w e f = (Some (bs, r), subst (BracedAt t) (sym e) (braced_at t), ap (λ x. done x r) f)

-- a reading that goes on takes bytes
pub shorter : (x y z : List ℕ) → length x < length y → (y ≡ z) ⊎ (length y < length z) → (x ≡ z) ⊎ (length x < length z)
shorter x y z lt (inl e) = inr (subst (λ u. length x < length u) e lt)
shorter x y z lt (inr h) = inr (omega arith)

-- a part that closes is no text
abbrev pub GivesInner : Outcome Part → Type 0
GivesInner (done p r) = IsInner p
GivesInner (fault k n) = Unit {0}

closed_index_inner : (left : ℕ) (x : List ℕ) (i : Outcome Word) → GivesInner (close_index left x i)
closed_index_inner left x (done w []) = tt
closed_index_inner left x (done w (b ∷ r)) = tt
closed_index_inner left x (fault k n) = tt

closed_bracket_inner : (left : ℕ) (s : Outcome Script) → GivesInner (close_bracket left s)
closed_bracket_inner left (done s []) = tt
closed_bracket_inner left (done s (b ∷ r)) = tt
closed_bracket_inner left (fault k n) = tt

named_by : (x : List ℕ) (o : Option (List ℕ × List ℕ)) → IsInner (part_by x o)
named_by x None = tt
named_by x (Some y) = tt

-- a name means no text
pub named_inner : (x : List ℕ) → IsInner (named_part x)
named_inner x = named_by x (element_parts x)

module _ (S : List ℕ → Outcome Script → Type 0) (I : List ℕ → Outcome Word → Type 0) where
  -- what is substituted is no text
  pub part_inner : (left : ℕ) (s : Substitution) (p : Part) (r : List ℕ) → PartIs S I left s (done p r) → IsInner p
  part_inner left (named x u) p r h = subst GivesInner (sym h) (named_inner x)
  part_inner left unnamed p r h = let e : done p r ≡ fault Variable left = h in absurd (cc)
  part_inner left (indexed x u) p r h = subst GivesInner (sym h.2) (closed_index_inner left x h.0)
  part_inner left (opened u) p r h = subst GivesInner (sym h.2) (closed_bracket_inner (length u + 1) h.0)

  pub bad_at : (m : Mode) (t : List ℕ) (s : Substitution) (k : Kind) (n : ℕ) → substituted s ≡ next m t → PartIs S I (length t) s (fault k n) → PartsAt S I m t (fault k n)
  bad_at m t s k n e h = bad_part (sym e) h

  -- one more part behind those that were read
  pub more_parts : (m : Mode) (all rest after : List ℕ) (s : Substitution) (ps qs : Word) (bs cs : List ℕ) (p : Part) → ((o : Outcome Word) → PartsAt S I m rest o → PartsAt S I m all (joined ps bs o))
      → substituted s ≡ next m rest → PartIs S I (length rest) s (done p after) → qs ≡ ps ++ literal bs [] ++ (p ∷ []) → cs ≡ [] → (o : Outcome Word) → PartsAt S I m after o → PartsAt S I m all (joined qs cs o)
  more_parts m all rest after s ps qs bs cs p so_far e h eq ec o q = rw (eq, ec, joined-part ps bs p o (part_inner (length rest) s p after h)) (so_far (put p o) (one_part p (sym e) h q))

  -- a word in braces or quotes, by how it begins
  pub enclosed_braces : (b : ℕ) (t u : List ℕ) (o : Outcome Word) → t ≡ b ∷ u → b ≡ 123 → BraceGives u o → EnclosedAt S I t o
  enclosed_braces b t u o et eb h =
      let w : EnclosedAt S I (123 ∷ u) (close_brace (suc (length u)) h.0) = in_braces h.0 refl h.1 in
      rw (et, eb, h.2, add-one (length u)) w

  pub enclosed_quotes : (b : ℕ) (t u : List ℕ) (i o : Outcome Word) → t ≡ b ∷ u → b ≡ 34 → PartsAt S I quotes u i → o ≡ close_quote (length u + 1) i → EnclosedAt S I t o
  enclosed_quotes b t u i o et eb q e =
      let w : EnclosedAt S I (34 ∷ u) (close_quote (suc (length u)) i) = in_quotes refl q in
      rw (et, eb, e, add-one (length u)) w

  -- a word in braces or quotes, by what follows
  pub word_ended : (nested : Bool) (t r : List ℕ) (w : Word) → ends_word nested r ≡ true → EnclosedAt S I t (done w r) → WordAt S I nested t (done w r)
  word_ended nested t r w e h =
      let x : WordAt S I nested t (followed nested (done w r)) = enclosed h in
      rw e at x

  pub word_extra : (nested : Bool) (t r : List ℕ) (w : Word) → ends_word nested r ≡ false → EnclosedAt S I t (done w r) → WordAt S I nested t (fault Extra (length r))
  word_extra nested t r w e h =
      let x : WordAt S I nested t (followed nested (done w r)) = enclosed h in
      rw e at x
