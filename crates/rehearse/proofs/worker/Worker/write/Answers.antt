use Rattle.std.proofs.Common.{sym, refl, subst, List, ℕ, ◌∙◌}
use Rattle.rehearse.specs.Playing.{WentBehind}
use Rattle.rehearse.proofs.Working.{writes_from}
use Rattle.rehearse.proofs.worker.Worker.write.Goals as goal

pub unreachable-requires : goal.unreachable-requires
unreachable-requires g c = c.in_default.not-Write c.requires.writing.0 (c.next.ensures.next ∙ c.requires.writing.1)

pub go_behind-requires : goal.go_behind-requires
go_behind-requires g c = c.requires.writing

pub returns : goal.returns
returns g c = λ setting objects same ready. rw c.turn_to.ensures
    (writes_from c.one_response.ensures setting c.args.self.now objects c.args.listing.now c.tell.new.listing
    c.args.connection c.args.serving c.in-Write.response c.go_behind.new.run.next c.go_behind.new.run.interp _ _
    (sym c.next.ensures.next ∙ c.in-Write.is) ready refl refl c.in_ok-tell.ensures
    (subst (λ (names : List (List ℕ)). WentBehind names c.go_behind.new.run.next c.go_behind.new.run.interp c.args.serving.run.interp) (sym same) c.go_behind.ensures))
