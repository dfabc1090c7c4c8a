-- What a reply goes by.
use Rattle.std.proofs.Common.{◌≡◌, ◌≢◌, ℕ, ◌+◌, ◌<◌, Bool, true, List, length, refl, sym, ap, ◌∙◌, subst, arith}
use Rattle.outside.specs.declared.question.Answer.{Answer}
use Rattle.http_req.specs.declared.request.Request.{Request}
use Rattle.http_resp.specs.declared.response.Response.{Response}
use Rattle.server_host.specs.declared.edition.Edition.{Edition}
use Rattle.tcl_eval.specs.declared.outcome.Outcome.{Outcome}
use Rattle.blueprint.specs.States as blueprints
use Rattle.ictl.specs.Main.{Progress, writes, ends, Main, behind_response}
use Rattle.worker.specs.Runs.{Course, Finished, CutShort, WantsBefore, WantsBehind, edition_of, whole_run, bytes_for, served_outcome}
use Rattle.worker.specs.Items.{Item, Gives, ComesTo, Replied, IsWritten}
use Rattle.worker.specs.Laws.{MetNothing, ItemsAreIsolated}
use Rattle.worker.specs.declared.served.Served.{Served}
use Rattle.worker.specs.declared.served.ServedOutcome.{ServedOutcome}
use Rattle.worker.specs.declared.served.ServedOutcome.TheVariants.{NoMemory}

gives_same : (names : List (List ℕ)) (a b : blueprints.State) (one other : Request) (m n : ℕ) (given heard : List Answer) (c d : Bool) (reply second : List ℕ) (left rest : List Answer) (way end : ServedOutcome)
    → Gives names Finished one a m given c reply left way → Gives names Finished other b n heard d second rest end
    → one ≡ other → edition_of a ≡ edition_of b → m ≡ n → given ≡ heard → c ≡ d → (reply ≡ second) × (way ≡ end)
gives_same names a b one other m n given heard c d reply second left rest way end g h request edition moment answers close =
    let main : Main names (edition_of a) one m given ≡ Main names (edition_of b) other n heard = λ i. Main names (edition i) (request i) (moment i) (answers i) in
    let written : writes g.responds.response g.responds.ending g.responds.state g.responds.inside left ≡ writes h.responds.response h.responds.ending h.responds.state h.responds.inside rest = sym g.responds.main ∙ (main ∙ h.responds.main) in
    let response : g.responds.response ≡ h.responds.response = cc in
    let whole : whole_run names a one m true given ≡ whole_run names b other n true heard = λ i. behind_response names (edition i) (moment i) true (request i) (Main names (edition i) (request i) (moment i) (answers i)) in
    let ended = sym g.after ∙ (whole ∙ h.after) in
    let outcome : g.outcome ≡ h.outcome = cc in (
      g.responds.bytes ∙ ((λ i. bytes_for (request i) (response i) (moment i) (close i)) ∙ sym h.responds.bytes),
      g.way_is ∙ (ap served_outcome outcome ∙ sym h.way_is),
    )

-- what met no want of memory, and was written whole, was finished
finishes : (names : List (List ℕ)) (course : Course) (number answered : ℕ) (request : Request) (blueprint : blueprints.State) (moment : ℕ) (answers : List Answer) (close : Bool) (reply : List ℕ) (way : ServedOutcome) (wrote : ℕ)
    → ComesTo names course number answered request blueprint moment answers close reply way → IsWritten course wrote (length reply) → way ≢ NoMemory → wrote ≡ length reply → course ≡ Finished
finishes names Finished number answered request blueprint moment answers close reply way wrote comes written had told = refl
finishes names CutShort number answered request blueprint moment answers close reply way wrote comes written had told =
    let less : wrote < length reply = written in absurd (omega (arith, less, told))
finishes names WantsBefore number answered request blueprint moment answers close reply way wrote comes written had told = absurd (had comes.2)
finishes names WantsBehind number answered request blueprint moment answers close reply way wrote comes written had told = absurd (had comes.3)

finished_of : (names : List (List ℕ)) (count answered : ℕ) (x : Served) (item : Item) → Replied names count answered x item → MetNothing x item → item.course ≡ Finished
finished_of names count answered x item r met =
    finishes names item.course (count + 1) answered item.request item.look.before x.moment x.answers item.close item.reply x.outcome x.wrote r.comes r.wrote met.0 met.1

pub isolated : ItemsAreIsolated
isolated names count answered others heard x y item other r s met unmet request edition moment answers close =
    let finished = finished_of names count answered x item r met in
    let done = finished_of names others heard y other s unmet in
    let g = subst (λ (course : Course). ComesTo names course (count + 1) answered item.request item.look.before x.moment x.answers item.close item.reply x.outcome) finished r.comes in
    let h = subst (λ (course : Course). ComesTo names course (others + 1) heard other.request other.look.before y.moment y.answers other.close other.reply y.outcome) done s.comes in
    let same = gives_same names item.look.before other.look.before item.request other.request x.moment y.moment x.answers y.answers item.close other.close item.reply other.reply g.0 h.0 x.outcome y.outcome g.2 h.2 request edition moment answers close in
    let wrote : x.wrote ≡ length item.reply = subst (λ (course : Course). IsWritten course x.wrote (length item.reply)) finished r.wrote in
    let told : y.wrote ≡ length other.reply = subst (λ (course : Course). IsWritten course y.wrote (length other.reply)) done s.wrote in
    (same.0, wrote ∙ (ap (λ (l : List ℕ). length l) same.0 ∙ sym told), same.1)
