-- One item, from its look to its interpreter's end.
use Rattle.std.proofs.Common.{◌≡◌, ◌≢◌, ◌⊎◌, inl, inr, ℕ, ◌+◌, ◌*◌, ◌<◌, ◌≤◌, Bool, true, false, List, [], ◌∷◌, ◌++◌, length, take, Option, None, Some, refl, sym, ap, ◌∙◌, subst, arith}
use Rattle.std.specs.Prelude.{min}
use Rattle.txt_core.specs.Limits.{moment_of}
use Rattle.outside.specs.Clocks.{Dial, Shows}
use Rattle.outside.specs.Paging.{PageMap}
use Rattle.outside.specs.Writing.{Gains}
use Rattle.outside.specs.declared.question.Answer.{Answer}
use Rattle.outside.specs.declared.sending.Sent.{Sent}
use Rattle.outside.specs.declared.sending.Sent.TheVariants as sending
use Rattle.cmd_table.specs.Commands.{Writes}
use Rattle.http_req.specs.declared.request.Request.{Request}
use Rattle.turn_cell.specs.Cells.{pass_view}
use Rattle.blueprint.specs.States as blueprints
use Rattle.blueprint.specs.declared.reply.BlueReply.{BlueReply}
use Rattle.blueprint.specs.declared.reply.BlueReply.TheVariants as blue_reply
use Rattle.blueprint.specs.declared.reply.Look.{Look}
use Rattle.blueprint.specs.declared.reply.Look.TheVariants as looks
use Rattle.server_host.specs.declared.edition.Edition.{Edition}
use Rattle.ictl.specs.Interps.{IsNew, IsSound, interp_state}
use Rattle.ictl.specs.Main.{Progress}
use Rattle.ictl.specs.declared.interp.Interp.{Interp}
use Rattle.shared_state.specs.Views.{BlueEntry}
use Rattle.shared_state.specs.declared.shared.Passes.{Passes}
use Rattle.worker.specs.Turns.{Turn, OnBlueprint, GainsTurns, GainsLook}
use Rattle.worker.specs.Runs.{Course, Finished, CutShort, WantsBefore, WantsBehind, edition_of, run_in, is_marked}
use Rattle.worker.specs.Clean.{Standing, edition_in, standing_in, standing_of, IsClean, IsCleanInterp}
use Rattle.worker.specs.Cost.{renewal, vain_cost, vain_cost_by, run_cost}
use Rattle.worker.specs.Outside.{Ticks}
use Rattle.worker.specs.Items.{Item, ComesTo, IsWritten, Replied, Backs}
use Rattle.worker.specs.Ends.{Wants}
use Rattle.worker.specs.Sessions.{At, StandsBehind, stands_at, MayBeLetGo, Finishes, Serves}
use Rattle.worker.specs.Renewing.{TellsLook, epoch_told, IsLeft}
use Rattle.worker.specs.Working.{bytes_sent, IsSent, IsMarkedBy, RunsRequest, RunsItem, BeginsNone}
use Rattle.worker.specs.declared.served.Served.{Served}
use Rattle.worker.specs.declared.served.ServedOutcome.{ServedOutcome}
use Rattle.worker.specs.declared.worker.Worker.{Worker}
use Rattle.worker.proofs.Looking.{look_seen, saw_on, saw_same, clean_on, epoch_is}
use Rattle.worker.proofs.Scripting.{is_told, place_of, left_stands, refused_left}

pub ticked : (before after : Option Dial) (reading moment : ℕ) → Shows before reading after → moment ≡ moment_of reading → Ticks before moment after
ticked before after reading moment shows is = (reading, shows, is)

written_of : (course : Course) (sent : Sent) (size : ℕ) → IsSent course sent size → IsWritten course (bytes_sent sent) size
written_of Finished (sending.Whole bytes) size s = s
written_of Finished (sending.WriteFault bytes) size s = absurd s
written_of CutShort (sending.Whole bytes) size s = absurd s
written_of CutShort (sending.WriteFault bytes) size s = s
written_of WantsBefore (sending.Whole bytes) size s = omega (arith, s)
written_of WantsBefore (sending.WriteFault bytes) size s = omega (arith, s)
written_of WantsBehind (sending.Whole bytes) size s = s
written_of WantsBehind (sending.WriteFault bytes) size s = absurd s

stands_of : (names : List (List ℕ)) (course : Course) (x : Served) (item : Item) (run : Progress) (marked : Bool) (standing : Option Standing) → run ≡ run_in item.course names item.look.before item.request x.moment x.answers
    → IsMarkedBy course run marked → standing ≡ Some (stands_at names item marked) → StandsBehind names course x item standing
stands_of names Finished x item run marked standing is m s = s ∙ ap (λ (b : Bool). Some (stands_at names item b)) (m ∙ ap is_marked is)
stands_of names CutShort x item run marked standing is m s = s ∙ ap (λ (b : Bool). Some (stands_at names item b)) (m ∙ ap is_marked is)
stands_of names WantsBefore x item run marked standing is m s = (marked, s)
stands_of names WantsBehind x item run marked standing is m s = (marked, s)

item_steps : (before renewed ran after one made cost : ℕ) → renewed ≤ before + one → ran + made ≤ renewed + cost → after ≡ ran + made → after ≤ before + one + cost
item_steps before renewed ran after one made cost f g h = omega (arith, f, g, h)

-- where its interpreter stands, as newly made again
abbrev pub behind : Edition → Bool → Option Standing
behind edition marked = Some (record { edition = edition; marked = marked })

pub standing_again : (new : Interp) (between found : Edition) (marked : Bool) → edition_in new ≡ between → between ≡ found → new.settling.run.engine.host.marked ≡ marked → standing_in (Some new) ≡ behind found marked
standing_again new between found marked same is mark = λ i. Some (record { edition = (same ∙ is) i; marked = mark i })

pub ran_item : (names : List (List ℕ)) (held : Option PageMap) (count answered known number : ℕ) (request : Request) (sent : Sent) (a : At) (x : Served) (b : At) (look : Look) (mid : Passes) (interp : Interp) (renewed ran : ℕ)
    (t : TellsLook a.passes x.turn known look mid) → look ≢ looks.NoMemory → x.epoch ≡ epoch_told known look → Ticks a.clock x.moment b.clock
    → RunsRequest names held t.entry.before request x.moment number answered sent mid b.passes a.output b.output a.faults b.faults renewed ran x.answers x.outcome interp → number ≡ count + 1 → x.wrote ≡ bytes_sent sent
    → b.standing ≡ behind (edition_of t.entry.before) interp.settling.run.engine.host.marked
    → renewed ≤ a.steps + renewal names a.standing t.entry.before → b.steps ≡ ran + Writes (interp_state interp).made
    → RunsItem names held count answered request sent a x b
ran_item names held count answered known number request sent a x b look mid interp renewed ran t told epoch ticks r is wrote stands cost steps =
    let item : Item = record { request = request; look = t.entry; turns = r.turns; more = r.more; course = r.course; close = r.close; reply = r.reply } in
    record {
      item = item;
      asks = refl;
      serves = record {
        mid = mid;
        looks = t.gains;
        ticks = ticks;
        gains = r.gains;
        backs = record {
          is_look = t.gains.0;
          is_told = is_told a.passes mid x.turn known look t told;
          place = place_of a.passes mid x.turn known look t told;
          asked = r.asked;
          one_more = r.one_more;
        };
        pages = r.pages;
        page_counts = r.counts;
        replied = record {
          place = place_of a.passes mid x.turn known look t told;
          epoch = epoch_is a.passes mid x.turn known look t told ∙ sym epoch;
          comes = subst (λ (n : ℕ). ComesTo names r.course n answered request t.entry.before x.moment x.answers r.close r.reply x.outcome) is r.comes;
          wrote = subst (λ (n : ℕ). IsWritten r.course n (length r.reply)) (sym wrote) (written_of r.course sent (length r.reply) r.sends);
        };
        writes = subst (λ (n : ℕ). Gains a.output (take n r.reply) b.output) (sym wrote) r.writes;
        stands = stands_of names r.course x item (run_in r.course names t.entry.before request x.moment x.answers) interp.settling.run.engine.host.marked b.standing refl r.marked stands;
        steps = item_steps a.steps renewed ran b.steps (renewal names a.standing t.entry.before) (Writes (interp_state interp).made) (run_cost (run_in r.course names t.entry.before request x.moment x.answers)) cost r.paid steps;
      };
      sends = r.sends;
      told = wrote;
    }

-- the interpreter is as newly made, from what the pass saw
pub ran_clean : (names : List (List ℕ)) (p mid q : Passes) (turn known : ℕ) (look : Look) (t : TellsLook p turn known look mid) (turns : List Turn) (made new : Interp)
    → GainsTurns mid turns q → edition_in made ≡ edition_of t.entry.before → edition_in new ≡ edition_in made → IsNew names new → IsCleanInterp names (pass_view q.blueprint) (Some new)
ran_clean names p mid q turn known look t turns made new g is same fresh =
    (fresh, saw_same (pass_view q.blueprint) (edition_in made) (edition_in new) same (saw_on mid q turns (edition_in made) g (look_seen p mid turn known look t made is)))

-- ---- no run was begun

left_clean : (names : List (List ℕ)) (p q : Passes) (turns : List Turn) (old new : Option Interp) → GainsTurns p turns q → IsCleanInterp names (pass_view p.blueprint) old → ((new ≡ old) ⊎ (new ≡ None)) → IsCleanInterp names (pass_view q.blueprint) new
left_clean names p q turns old new g clean (inl is) = subst (λ (i : Option Interp). IsCleanInterp names (pass_view q.blueprint) i) (sym is) (clean_on names p q turns old g clean)
left_clean names p q turns old new g clean (inr is) = subst (λ (i : Option Interp). IsCleanInterp names (pass_view q.blueprint) i) (sym is) tt

left_either : (look : Look) (old new : Option Interp) → IsLeft look old new → (new ≡ old) ⊎ (new ≡ None)
left_either looks.Same old new l = l
left_either (looks.Since epoch defs) old new l = l
left_either (looks.Whole epoch defs) old new l = l
left_either looks.NoMemory old new l = inl l

pub unbegun_clean : (names : List (List ℕ)) (p q : Passes) (turn known : ℕ) (look : Look) (t : TellsLook p turn known look q) (old new : Worker) → IsClean names p old → IsLeft look old.interp new.interp → IsClean names q new
unbegun_clean names p q turn known look t old new clean l = left_clean names p q (OnBlueprint t.entry ∷ []) old.interp new.interp t.gains.1 clean (left_either look old.interp new.interp l)

let_go : (names : List (List ℕ)) (look : Look) (old new : Option Interp) → IsLeft look old new → MayBeLetGo names (blue_reply.Look look) (standing_in old) (standing_in new)
let_go names looks.Same old new l = left_stands looks.Same old new (λ is. cc) l
let_go names (looks.Since epoch defs) old new l = left_stands (looks.Since epoch defs) old new (λ is. cc) l
let_go names (looks.Whole epoch defs) old new l = left_stands (looks.Whole epoch defs) old new (λ is. cc) l
let_go names looks.NoMemory old new l = ap standing_in l

vain_by : (look : Look) (before after cost : ℕ) → after ≤ before + 2 * cost → (look ≡ looks.NoMemory → after ≡ before) → after ≤ before + vain_cost_by (blue_reply.Look look) cost
vain_by looks.Same before after cost most refused = most
vain_by (looks.Since epoch defs) before after cost most refused = most
vain_by (looks.Whole epoch defs) before after cost most refused = most
vain_by looks.NoMemory before after cost most refused = let e = refused refl in omega (arith, e)

pub begins_none_by : (names : List (List ℕ)) (a b : At) (turn known moment : ℕ) (look : Look) (t : TellsLook a.passes turn known look b.passes) (old new : Option Interp)
    → a.standing ≡ standing_in old → b.standing ≡ standing_in new → IsLeft look old new → Ticks a.clock moment b.clock → b.faults ≡ a.faults → b.output ≡ a.output
    → b.steps ≤ a.steps + 2 * renewal names a.standing t.entry.before → (look ≡ looks.NoMemory → b.steps ≡ a.steps)
    → BeginsNone names moment a b
begins_none_by names a b turn known moment look t old new had has l ticks faults output most refused = (
  Some t.entry,
  (
    t.gains,
    subst (λ (r : BlueReply). MayBeLetGo names r a.standing b.standing) (sym t.reply) (subst (λ (s : Option Standing). MayBeLetGo names (blue_reply.Look look) s b.standing) (sym had) (subst (λ (s : Option Standing). MayBeLetGo names (blue_reply.Look look) (standing_in old) s) (sym has) (let_go names look old new l))),
    faults,
    subst (λ (r : BlueReply). b.steps ≤ a.steps + vain_cost_by r (renewal names a.standing t.entry.before)) (sym t.reply) (vain_by look a.steps b.steps (renewal names a.standing t.entry.before) most refused),
    ticks,
  ),
  output,
)
