use Rattle.std.proofs.Common.{refl, sym, ◌∙◌}
use Rattle.serving.specs.declared.connection.Behind.TheVariants.{GoesOn, Closing, Spent}
use Rattle.rehearse.proofs.Working.{ends_from}
use Rattle.rehearse.proofs.Telling.{on_ok, tells_none}
use Rattle.rehearse.proofs.worker.Worker.end.Goals as goal

pub returns-in-GoesOn : goal.returns-in-GoesOn
returns-in-GoesOn g c = λ setting objects outcome at ready. rw c.turn_to.ensures
    (ends_from setting c.args.self.now _ objects c.args.listing.now c.args.listing.now c.args.connection c.args.serving outcome GoesOn at ready c.into_parts-interp.ensures.stands (sym c.in-GoesOn.is ∙ c.after_request-behind.ensures)
    ((rw c.into_parts-interp.ensures.interp at c.keep.ensures) setting.natives objects.blueprint ready.0.0 ready.1.1.sound ready.1.1.on) refl refl (tells_none c.args.listing.now))

pub returns-in-Closing : goal.returns-in-Closing
returns-in-Closing g c = λ setting objects outcome at ready.
    on_ok c.push_closed.result
    (λ tells.
    ends_from setting c.args.self.now _ objects c.args.listing.now c.push_closed.new.self c.args.connection c.args.serving outcome Closing at ready c.into_parts-interp.ensures.stands (sym c.in-Closing.is ∙ c.after_request-behind.ensures)
    ((rw c.into_parts-interp.ensures.interp at c.keep.ensures) setting.natives objects.blueprint ready.0.0 ready.1.1.sound ready.1.1.on) refl c.requires tells)
    c.push_closed.ensures

pub returns-in-Spent : goal.returns-in-Spent
returns-in-Spent g c = λ setting objects outcome at ready.
    on_ok c.push_closed-in-Spent.result
    (λ tells.
    ends_from setting c.args.self.now _ objects c.args.listing.now c.push_closed-in-Spent.new.self c.args.connection c.args.serving outcome Spent at ready c.into_parts-interp.ensures.stands (sym c.in-Spent.is ∙ c.after_request-behind.ensures)
    ((rw c.into_parts-interp.ensures.interp at c.keep.ensures) setting.natives objects.blueprint ready.0.0 ready.1.1.sound ready.1.1.on) refl c.requires tells)
    c.push_closed-in-Spent.ensures
