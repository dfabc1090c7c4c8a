use Rattle.std.proofs.Common.{◌≡◌, ℕ, ◌+◌, List, length, take, Option, refl, sym, subst, ap, arith}
use Rattle.outside.specs.Faults.{Rose}
use Rattle.outside.specs.Writing.{Gains}
use Rattle.rehearse.proofs.Rehearsed.{passed_on, failed}
use Rattle.rehearse.proofs.playback.Play.pass_on.Goals as goal

pub returns-in-Whole-clause-passes : goal.returns-in-Whole-clause-passes
returns-in-Whole-clause-passes g c = λ names outside now output faults s.
    let p = c.args.self.now in
    let gains : Gains now.output p.listing.text (g.K.Sink.taken c.write_all.new.sink) =
    subst (λ (o : Option (List ℕ)). Gains o p.listing.text (g.K.Sink.taken c.write_all.new.sink)) (sym output)
    (subst (λ (t : List ℕ). Gains (g.K.Sink.taken c.args.sink.now) t (g.K.Sink.taken c.write_all.new.sink)) c.bytes-text.ensures c.in-Whole.ensures.1) in
    let written : c.in-Some.written ≡ p.written + length p.listing.text = omega (arith, c.in-Some.ensures, ap length c.bytes-text.ensures) in (
      passed_on names outside now p (g.K.Sink.taken c.write_all.new.sink) (g.K.Sink.faults c.write_all.new.sink) c.in-Some.written
          (record { alloc = p.listing.alloc; text = c.clear.new.self; tally = p.listing.tally }) gains (omega (arith, faults, c.in-Whole.ensures.2)) written c.clear.ensures refl s,
      c.clear.ensures,
    )

pub returns-in-WriteFault-clause-passes : goal.returns-in-WriteFault-clause-passes
returns-in-WriteFault-clause-passes g c = λ names outside now output faults s.
    let p = c.args.self.now in
    let gains : Gains now.output (take c.in-WriteFault.sent p.listing.text) (g.K.Sink.taken c.write_all.new.sink) =
    subst (λ (o : Option (List ℕ)). Gains o (take c.in-WriteFault.sent p.listing.text) (g.K.Sink.taken c.write_all.new.sink)) (sym output)
    (subst (λ (t : List ℕ). Gains (g.K.Sink.taken c.args.sink.now) (take c.in-WriteFault.sent t) (g.K.Sink.taken c.write_all.new.sink)) c.bytes-text.ensures c.in-WriteFault.ensures.1) in
    failed names outside now p (g.K.Sink.taken c.write_all.new.sink) (g.K.Sink.faults c.write_all.new.sink) c.in-WriteFault.sent
    (omega (arith, c.in-WriteFault.ensures.0, ap length c.bytes-text.ensures)) gains (omega (arith, faults, c.in-WriteFault.ensures.2))
    (subst (λ (n : ℕ). Rose n (g.K.Sink.faults c.write_all.new.sink)) (sym faults) c.in-WriteFault.ensures.3) s
