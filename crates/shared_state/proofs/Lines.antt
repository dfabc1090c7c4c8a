-- Histories of buckets as one thread has them.
use Rattle.std.proofs.Common.{◌≡◌, ◌⊎◌, inl, inr, ℕ, suc, ◌+◌, Bool, true, false, not, cond, List, [], ◌∷◌, map, refl, sym, ap, ◌∙◌, subst}
use Rattle.std.proofs.lemmas.Bool.{false≢true}
use Rattle.turn_cell.specs.declared.view.Entry.{Entry}
use Rattle.turn_cell.specs.History.{after_of, IsHistory}
use Rattle.nsv_bucket.specs.declared.reply.NsvReply.{NsvReply}
use Rattle.nsv_bucket.specs.declared.reply.NsvReply.TheVariants.{NoMemory}
use Rattle.nsv_bucket.specs.Arrays.{Arrays}
use Rattle.nsv_bucket.specs.Steps.{ArraySteps, array_step}
use Rattle.shared_state.specs.Lines.{BucketEntry, is_wanting, answered, replies_of, arrays_after, HistoriesAreLines, NeighboursAreLines}
use Rattle.shared_state.proofs.Replying.{step_answers}

-- a list of turns is answered as one thread is from these arrays on, and leaves these
abbrev IsLine : Arrays → List BucketEntry → Arrays → Type 0
IsLine s es t = (map (λ e. e.reply) es ≡ replies_of s (map (λ e. e.call) es)) × (t ≡ arrays_after s (map (λ e. e.call) es))

kept : (e : BucketEntry) (es : List BucketEntry) → is_wanting e.reply ≡ false → e ∷ answered es ≡ answered (e ∷ es)
kept e es w = sym (ap (λ (b : Bool). cond (not b) (e ∷ answered es) (answered es)) w)

dropped : (e : BucketEntry) (es : List BucketEntry) → is_wanting e.reply ≡ true → answered es ≡ answered (e ∷ es)
dropped e es w = sym (ap (λ (b : Bool). cond (not b) (e ∷ answered es) (answered es)) w)

front : (s a t : Arrays) (e : BucketEntry) (es : List BucketEntry) → e.reply ≡ (array_step s e.call).0 → a ≡ (array_step s e.call).1
    → IsLine a es t → IsLine s (e ∷ es) t
front s a t e es r x h = (
  ap (λ (y : NsvReply). y ∷ map (λ e. e.reply) es) r
      ∙ ap (λ (l : List NsvReply). (array_step s e.call).0 ∷ l) (h.0 ∙ ap (λ (b : Arrays). replies_of b (map (λ e. e.call) es)) x),
  h.1 ∙ ap (λ (b : Arrays). arrays_after b (map (λ e. e.call) es)) x,
)

one : (s t : Arrays) (e : BucketEntry) (es : List BucketEntry) → e.before ≡ s → ArraySteps e.before e.call e.reply e.after
    → IsLine e.after (answered es) t → IsLine s (answered (e ∷ es)) t
one s t e es b (inl p) h =
    let r = p.0 ∙ ap (λ (x : Arrays). (array_step x e.call).0) b in
    subst (λ (l : List BucketEntry). IsLine s l t) (kept e es (ap is_wanting r ∙ step_answers s e.call))
    (front s e.after t e (answered es) r (p.1 ∙ ap (λ (x : Arrays). (array_step x e.call).1) b) h)
one s t e es b (inr p) h =
    subst (λ (l : List BucketEntry). IsLine s l t) (dropped e es (ap is_wanting p.0))
    (subst (λ (x : Arrays). IsLine x (answered es) t) (p.1 ∙ b) h)

lines : (n : ℕ) (s : Arrays) (es : List BucketEntry) → IsHistory (λ s. Unit {0}) ArraySteps n s es → IsLine s (answered es) (after_of s es)
lines n s [] h = (refl, refl)
lines n s (e ∷ es) h = one s (after_of e.after es) e es h.0.1 h.0.2 (lines (suc n) e.after es h.1)

pub histories_are_lines : HistoriesAreLines
histories_are_lines opening own h = lines 0 opening own h

beside : (s : Arrays) (f : BucketEntry) → f.before ≡ s → ArraySteps f.before f.call f.reply f.after → is_wanting f.reply ≡ false
    → (f.reply ≡ (array_step s f.call).0) × (f.after ≡ (array_step s f.call).1)
beside s f b (inl p) w = (p.0 ∙ ap (λ (x : Arrays). (array_step x f.call).0) b, p.1 ∙ ap (λ (x : Arrays). (array_step x f.call).1) b)
beside s f b (inr p) w = absurd (false≢true (sym w ∙ ap is_wanting p.0))

pub neighbours_are_lines : NeighboursAreLines
neighbours_are_lines v h e f i j next step w = beside e.after f (h.linked e f i j next) step w
