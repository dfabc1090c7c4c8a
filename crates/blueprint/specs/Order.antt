-- The order of a blueprint's states is one, each step goes along it, and the empty blueprint is allowed.
use Rattle.std.proofs.Common.{◌⊎◌, inl, inr, ◌<◌, ◌≤◌, ℕ, ◌+◌, List, [], ◌∷◌, ◌++◌, append_assoc, refl, sym, ap, ◌∙◌, subst, arith}
use Rattle.std.specs.List.{AllByRecursion}
use Rattle.txt_core.specs.Names.{Names}
use Rattle.cmd_table.specs.declared.definition.Def.{Def}
use Rattle.blueprint.specs.declared.reply.BlueCall.{BlueCall}
use Rattle.blueprint.specs.declared.reply.BlueCall.TheVariants as calls
use Rattle.blueprint.specs.declared.reply.BlueReply.{BlueReply}
use Rattle.blueprint.specs.declared.reply.BlueReply.TheVariants as replies
use Rattle.blueprint.specs.declared.reply.Published.{Published}
use Rattle.blueprint.specs.declared.reply.Published.TheVariants as published
use Rattle.blueprint.specs.Reading.{scripted}
use Rattle.blueprint.specs.States.{Row, State, fresh, rows_of, Allowed}
use Rattle.blueprint.specs.Publishing.{Answers, publish_answer, save_answer, saved_defs, with_published, with_saved}
use Rattle.blueprint.specs.Objects.{BlueprintSteps, GrewTo, Reaches}

pub fresh_allowed : (natives : Names) → Allowed (fresh natives)
fresh_allowed natives = record { applies = refl; count = omega arith; bytes = omega arith; epochs = omega arith; last = omega arith }

pub reaches_self : (state : State) → Reaches state state
reaches_self state = inl refl

IsLater : ℕ → Row → Type 0
IsLater epoch row = epoch < row.epoch

weaker : (rows : List Row) (early late : ℕ) → early ≤ late → AllByRecursion (λ row. late < row.epoch) rows → AllByRecursion (λ row. early < row.epoch) rows
weaker [] early late le h = tt
weaker (row ∷ rows) early late le h = (omega (arith, h.0), weaker rows early late le h.1)

joined : (rows others : List Row) (epoch : ℕ) → AllByRecursion (λ row. epoch < row.epoch) rows → AllByRecursion (λ row. epoch < row.epoch) others → AllByRecursion (λ row. epoch < row.epoch) (rows ++ others)
joined [] others epoch h k = k
joined (row ∷ rows) others epoch h k = (h.0, joined rows others epoch h.1 k)

between : (s t u : State) → s.epoch < t.epoch → ((s.epoch < t.base) ⊎ GrewTo s t) → ((t.epoch < u.base) ⊎ GrewTo t u) → (s.epoch < u.base) ⊎ GrewTo s u
between s t u lt a (inl saved) = inl (omega arith)
between s t u lt (inl saved) (inr g) = inl (omega (arith, g.0))
between s t u lt (inr f) (inr g) =
    inr (
      f.0 ∙ g.0,
      (
        f.1.0 ++ g.1.0,
        g.1.1 ∙ ap (λ (rows : List Row). rows ++ g.1.0) f.1.1 ∙ append_assoc s.rows f.1.0 g.1.0,
        joined f.1.0 g.1.0 s.epoch f.1.2 (weaker g.1.0 s.epoch t.epoch (omega arith) g.1.2),
      ),
    )

pub reaches_later : (s t u : State) → Reaches s t → Reaches t u → Reaches s u
reaches_later s t u (inl e) k = subst (λ (x : State). Reaches x u) (sym e) k
reaches_later s t u (inr h) (inl e) = subst (λ (x : State). Reaches s x) e (inr h)
reaches_later s t u (inr h) (inr k) = inr (h.0 ∙ k.0, omega (arith, h.1, k.1), between s t u h.1 h.2 k.2)

rows_later : (epoch : ℕ) (defs : List Def) → AllByRecursion (λ row. epoch < row.epoch) (rows_of (epoch + 1) defs)
rows_later epoch [] = tt
rows_later epoch (def ∷ defs) = (omega arith, rows_later epoch defs)

reaches_published : (state : State) (made : List Def) → Reaches state (with_published state made)
reaches_published state made = inr (refl, omega arith, inr (refl, (rows_of (state.epoch + 1) made, refl, rows_later state.epoch made)))

reaches_saved : (state : State) (made : List Def) → Reaches state (with_saved state made)
reaches_saved state made = inr (refl, omega arith, inl (omega arith))

along : (state other now : State) (expected reply : Published) → Reaches state other → Answers state expected other reply now → Reaches state now
along state other now expected published.NoMemory r h = inl (sym h)
along state other now expected (published.Done epoch) r h = subst (λ (x : State). Reaches state x) (sym h.1) r
along state other now expected (published.NotADefinition number) r h = inl (sym h.1)
along state other now expected (published.NotApplicable place) r h = inl (sym h.1)
along state other now expected (published.Full limit) r h = inl (sym h.1)

pub step_reaches : (state : State) (call : BlueCall) (reply : BlueReply) (now : State) → Allowed state → BlueprintSteps state call reply now → Reaches state now
step_reaches state (calls.Look epoch) (replies.Look look) now ok h = inl (sym h.1)
step_reaches state (calls.Publish made) (replies.Published reply) now ok h = along state (with_published state made) now (publish_answer state made) reply (reaches_published state made) h
step_reaches state (calls.Save script) (replies.Published reply) now ok h = along state (with_saved state (saved_defs (scripted script))) now (save_answer state (scripted script)) reply (reaches_saved state (saved_defs (scripted script))) h
step_reaches state (calls.Look epoch) (replies.Published reply) now ok h = absurd h
step_reaches state (calls.Publish made) (replies.Look look) now ok h = absurd h
step_reaches state (calls.Save script) (replies.Look look) now ok h = absurd h
