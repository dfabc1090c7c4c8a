use Rattle.std.proofs.Common.{◌≡◌, ◌∙◌, ◌+◌, ◌<◌, ℕ, List, length, take, sym, ap, subst, arith}
use Rattle.outside.specs.Writing.{Gains}
use Rattle.natives.specs.Names.{names_of}
use Rattle.http_resp.specs.ResponseBytes.{response_bytes}
use Rattle.server_host.specs.declared.edition.Edition.{Edition}
use Rattle.serving.specs.Connections.{closes}
use Rattle.ictl.specs.Main.{Main}
use Rattle.ictl.specs.Interps.{taken, interp_written, IsWithin}
use Rattle.ictl.specs.Visits.{visit_of}
use Rattle.worker.specs.Clean.{edition_in}
use Rattle.worker.specs.Items.{bytes_of}
use Rattle.worker.specs.Working.{SentCauses}
use Rattle.worker.proofs.Written.{ran_whole}
use Rattle.worker.proofs.Hearing.{begun}
use Rattle.worker.proofs.Paying.{new_alone, writing_alone, paid_once}
use Rattle.worker.proofs.Requests.{reply_for, heard_main, wants_before, cut_short, paid_by}
use Rattle.worker.proofs.Within.{KeepsWithin, cost_within, within_all, first_within}
use Rattle.worker.proofs.item.run_request.Goals as goal

pub end_whole-requires-clause-response : goal.end_whole-requires-clause-response
end_whole-requires-clause-response g c = (_, c.in-Some.ensures.wrote.1)

pub end_cut-requires : goal.end_cut-requires
end_cut-requires g c = (_, c.in-Some.ensures.wrote.1)

-- no response came
pub returns-in_default-clause-ran : goal.returns-in_default-clause-ran
returns-in_default-clause-ran g c = λ asked old first before state began asks head is by.
    let names = names_of c.args.natives.now in
    let held = g.P.Pages.held c.args.pages.now in
    let moment = c.args.moment in
    let request = asked in
    let number = c.args.manner.requests in
    let i0 = old in
    let i1 = c.args.run.now.interp in
    let i2 = c.answer_all.new.run.interp in
    let s0 = first in
    let s1 = c.args.steps.now in
    let s2 = c.answer_all.new.steps in
    let w0 = interp_written names i0 in
    let w1 = interp_written names i1 in
    let w2 = interp_written names i2 in
    let inside1 = taken names s1 s0 i1 i0 in
    let inside2 = inside1 + taken names s2 s1 i2 i1 in
    let f2 = g.P.Pages.faults c.answer_all.new.pages in
    let p = c.args.passes.now in
    let q = c.answer_all.new.passes in
    let had = c.answer_all.new.heard.answers in
    let known = c.args.heard.now.published in
    let noted = c.answer_all.new.heard.published in
    let h = c.answer_all.ensures.hears inside1 in
    let main = heard_main names state request moment (edition_in i0) c.args.run.now.next inside1 i1 p held (g.P.Pages.faults c.args.pages.now) known c.args.heard.now.answers
    c.answer_all.new.run.next inside2 i2 q f2 noted had is began.stands.stands c.write_next.ensures.stands h in
    let within : KeepsWithin names c.args.run.now.next i1 s1 c.args.heard.now.answers c.answer_all.new.run.next i2 s2 had = c.answer_all.ensures.within in
    wants_before names held state request moment number before c.tell_want.result.sent p q (g.K.Sink.taken c.args.sink.now) (g.K.Sink.taken c.tell_want.new.sink)
    (g.P.Pages.faults c.args.pages.now) f2 s0 s2 known noted c.args.heard.now.answers had c.answer_all.new.run.next inside2 i2 c.tell_want.result.outcome main c.requires.none c.tell_want.ensures.outcome (rw (rw c.in_default.is at c.write_next.ensures.wrote).0 at c.tell_want.ensures.sent)
    (cost_within i2 _ s0 s2 (subst (λ (e : Edition). IsWithin 0 s0 s2 i2 (Main names e request moment had)) is
    (within_all names (λ further. Main names (edition_in i0) request moment further) c.args.heard.now.answers _ _ i2 had 0 s0 s2
    (within (λ further. Main names (edition_in i0) request moment further) inside1 0 s0 (began.stands)
    (first_within s0 s1 w0 w1) began.most) c.requires.none)))

-- memory wanted in the bytes of the response
pub returns-in-NoMemory-clause-ran : goal.returns-in-NoMemory-clause-ran
returns-in-NoMemory-clause-ran g c = λ asked old first before state began asks head is by.
    let names = names_of c.args.natives.now in
    let held = g.P.Pages.held c.args.pages.now in
    let moment = c.args.moment in
    let request = asked in
    let number = c.args.manner.requests in
    let i0 = old in
    let i1 = c.args.run.now.interp in
    let i2 = c.answer_all.new.run.interp in
    let s0 = first in
    let s1 = c.args.steps.now in
    let s2 = c.answer_all.new.steps in
    let w0 = interp_written names i0 in
    let w1 = interp_written names i1 in
    let w2 = interp_written names i2 in
    let inside1 = taken names s1 s0 i1 i0 in
    let inside2 = inside1 + taken names s2 s1 i2 i1 in
    let f2 = g.P.Pages.faults c.answer_all.new.pages in
    let p = c.args.passes.now in
    let q = c.answer_all.new.passes in
    let had = c.answer_all.new.heard.answers in
    let known = c.args.heard.now.published in
    let noted = c.answer_all.new.heard.published in
    let h = c.answer_all.ensures.hears inside1 in
    let main = heard_main names state request moment (edition_in i0) c.args.run.now.next inside1 i1 p held (g.P.Pages.faults c.args.pages.now) known c.args.heard.now.answers
    c.answer_all.new.run.next inside2 i2 q f2 noted had is began.stands.stands c.write_next.ensures.stands h in
    let written = rw c.in-Some.ensures.wrote.1 at main in
    let reply = reply_for request c.in-Some.ensures.wrote.0 moment number before had in
    let as_asked : response_bytes c.in-Some.ensures.wrote.0 moment c.args.manner.head_only (closes c.args.manner.asks number (before + bytes_of had)) ≡ reply =
    λ i. response_bytes c.in-Some.ensures.wrote.0 moment (head i) (closes (asks i) number (before + bytes_of had)) in
    let writing = rw c.in-Some.ensures.wrote.1 at c.write_next.ensures.stands in
    let sound = c.answer_all.ensures.sound names (began.sound names began.fresh.0) in
    let visited = begun names moment ((i1.visit ≡ visit_of names (edition_in i0) request) × (i1.moment ≡ moment)) c.args.run.now.next inside1 i1 p held (g.P.Pages.faults c.args.pages.now) known c.args.heard.now.answers
    c.answer_all.new.run.next inside2 i2 q f2 noted had began.visit c.write_next.ensures.stands (λ none. let e = c.in-Some.ensures.wrote.1 in cc) h in
    let edition : edition_in i2 ≡ edition_in i0 = c.answer_all.ensures.blueprint ∙ began.blueprint in
    let visit : i2.visit ≡ visit_of names (edition_in i2) request = c.answer_all.ensures.same.visit ∙ (visited.0 ∙ ap (λ (e : Edition). visit_of names e request) (sym edition)) in
    let d = (rw c.in-NoMemory.is at c.in-Some.ensures.wrote.2) before by in
    wants_before names held state request moment number before c.tell_want-in-NoMemory.result.sent p q (g.K.Sink.taken c.args.sink.now) (g.K.Sink.taken c.tell_want-in-NoMemory.new.sink)
    (g.P.Pages.faults c.args.pages.now) f2 s0 s2 known noted c.args.heard.now.answers had c.answer_all.new.run.next inside2 i2 c.tell_want-in-NoMemory.result.outcome main c.requires.none c.tell_want-in-NoMemory.ensures.outcome (rw d.0 at c.tell_want-in-NoMemory.ensures.sent)
    (paid_by names held state request moment p q (g.P.Pages.faults c.args.pages.now) f2 known noted c.args.heard.now.answers had c.in-Some.ensures.wrote.0 i2 inside2 s0 s2 written c.requires.none
    (paid_once s0 s1 s2 w0 w1 w2 _ (new_alone names i0 began.fresh) (writing_alone names i2 writing) began.counts c.answer_all.ensures.counts))

-- the sink failed in the response
pub returns-in-WriteFault-clause-ran : goal.returns-in-WriteFault-clause-ran
returns-in-WriteFault-clause-ran g c = λ asked old first before state began asks head is by.
    let names = names_of c.args.natives.now in
    let held = g.P.Pages.held c.args.pages.now in
    let moment = c.args.moment in
    let request = asked in
    let number = c.args.manner.requests in
    let i0 = old in
    let i1 = c.args.run.now.interp in
    let i2 = c.answer_all.new.run.interp in
    let s0 = first in
    let s1 = c.args.steps.now in
    let s2 = c.answer_all.new.steps in
    let w0 = interp_written names i0 in
    let w1 = interp_written names i1 in
    let w2 = interp_written names i2 in
    let inside1 = taken names s1 s0 i1 i0 in
    let inside2 = inside1 + taken names s2 s1 i2 i1 in
    let f2 = g.P.Pages.faults c.answer_all.new.pages in
    let p = c.args.passes.now in
    let q = c.answer_all.new.passes in
    let had = c.answer_all.new.heard.answers in
    let known = c.args.heard.now.published in
    let noted = c.answer_all.new.heard.published in
    let h = c.answer_all.ensures.hears inside1 in
    let main = heard_main names state request moment (edition_in i0) c.args.run.now.next inside1 i1 p held (g.P.Pages.faults c.args.pages.now) known c.args.heard.now.answers
    c.answer_all.new.run.next inside2 i2 q f2 noted had is began.stands.stands c.write_next.ensures.stands h in
    let written = rw c.in-Some.ensures.wrote.1 at main in
    let reply = reply_for request c.in-Some.ensures.wrote.0 moment number before had in
    let as_asked : response_bytes c.in-Some.ensures.wrote.0 moment c.args.manner.head_only (closes c.args.manner.asks number (before + bytes_of had)) ≡ reply =
    λ i. response_bytes c.in-Some.ensures.wrote.0 moment (head i) (closes (asks i) number (before + bytes_of had)) in
    let writing = rw c.in-Some.ensures.wrote.1 at c.write_next.ensures.stands in
    let sound = c.answer_all.ensures.sound names (began.sound names began.fresh.0) in
    let visited = begun names moment ((i1.visit ≡ visit_of names (edition_in i0) request) × (i1.moment ≡ moment)) c.args.run.now.next inside1 i1 p held (g.P.Pages.faults c.args.pages.now) known c.args.heard.now.answers
    c.answer_all.new.run.next inside2 i2 q f2 noted had began.visit c.write_next.ensures.stands (λ none. let e = c.in-Some.ensures.wrote.1 in cc) h in
    let edition : edition_in i2 ≡ edition_in i0 = c.answer_all.ensures.blueprint ∙ began.blueprint in
    let visit : i2.visit ≡ visit_of names (edition_in i2) request = c.answer_all.ensures.same.visit ∙ (visited.0 ∙ ap (λ (e : Edition). visit_of names e request) (sym edition)) in
    let d = (rw c.in-WriteFault.is at c.in-Some.ensures.wrote.2) before by in
    let came = c.end_cut.new.run.next in
    let j = c.end_cut.new.run.interp in
    cut_short names held state request moment number before c.in-WriteFault.sent p q (g.K.Sink.taken c.args.sink.now) (g.K.Sink.taken c.write_next.new.sink) (g.P.Pages.faults c.args.pages.now) f2 s0 s2 known noted c.args.heard.now.answers had c.in-Some.ensures.wrote.0 i2 inside2 came j c.end_cut.result c.end_cut.new.steps
    written c.requires.none c.end_cut.ensures.cut.ended (c.end_cut.ensures.cut.state request (sound, visit, writing)) c.end_cut.ensures.outcome c.end_cut.ensures.cut.steps
    (subst (λ (l : List ℕ). c.in-WriteFault.sent < length l) as_asked d.0) (subst (λ (l : List ℕ). Gains (g.K.Sink.taken c.args.sink.now) (take c.in-WriteFault.sent l) (g.K.Sink.taken c.write_next.new.sink)) as_asked d.1)
    (paid_once s0 s1 s2 w0 w1 w2 _ (new_alone names i0 began.fresh) (writing_alone names i2 writing) began.counts c.answer_all.ensures.counts)

-- the response was written whole, and what is behind it was run
pub returns-in-Whole-clause-ran : goal.returns-in-Whole-clause-ran
returns-in-Whole-clause-ran g c = λ asked old first before state began asks head is by.
    let names = names_of c.args.natives.now in
    let run = c.args.run.now in
    let d = (rw c.in-Whole.is at c.in-Some.ensures.wrote.2) before by in
    ran_whole names (g.P.Pages.held c.args.pages.now) (g.P.Pages.held c.answer_all.new.pages) state asked c.args.moment c.args.manner.requests before c.in-Whole.bytes c.args.manner.asks c.args.manner.head_only
    c.args.passes.now c.answer_all.new.passes c.end_whole.new.passes (g.K.Sink.taken c.args.sink.now) (g.K.Sink.taken c.write_next.new.sink)
    (g.P.Pages.faults c.args.pages.now) (g.P.Pages.faults c.answer_all.new.pages) (g.P.Pages.faults c.end_whole.new.pages) first c.args.steps.now c.answer_all.new.steps c.end_whole.new.steps
    c.args.heard.now.published c.answer_all.new.heard.published c.end_whole.new.heard.published c.args.heard.now.answers c.answer_all.new.heard.answers c.end_whole.new.heard.answers
    c.in-Some.ensures.wrote.0 old run c.answer_all.new.run c.end_whole.new.run c.end_whole.result
    began (c.answer_all.ensures.hears (taken names c.args.steps.now first run.interp old)) c.answer_all.ensures.counts c.answer_all.ensures.same c.answer_all.ensures.blueprint c.answer_all.ensures.sound
    c.write_next.ensures.stands c.in-Some.ensures.wrote.1 is asks head c.requires.none c.answer_all.ensures.held c.end_whole.ensures.behind c.end_whole.ensures.outcome d.0 d.1

pub returns-in_default-clause-sound : goal.returns-in_default-clause-sound
returns-in_default-clause-sound g c = c.answer_all.ensures.sound

pub returns-in-NoMemory-clause-sound : goal.returns-in-NoMemory-clause-sound
returns-in-NoMemory-clause-sound g c = c.answer_all.ensures.sound

pub returns-in-Whole-clause-sound : goal.returns-in-Whole-clause-sound
returns-in-Whole-clause-sound g c = λ names sound. c.end_whole.ensures.sound names (c.answer_all.ensures.sound names sound)

pub returns-in-WriteFault-clause-sound : goal.returns-in-WriteFault-clause-sound
returns-in-WriteFault-clause-sound g c = λ names sound. c.end_cut.ensures.sound names (c.answer_all.ensures.sound names sound)

pub returns-in-Whole-clause-blueprint : goal.returns-in-Whole-clause-blueprint
returns-in-Whole-clause-blueprint g c = c.end_whole.ensures.blueprint ∙ c.answer_all.ensures.blueprint

pub returns-in-WriteFault-clause-blueprint : goal.returns-in-WriteFault-clause-blueprint
returns-in-WriteFault-clause-blueprint g c = c.end_cut.ensures.blueprint ∙ c.answer_all.ensures.blueprint

-- ---- the sink's count

pub returns-in-Whole-clause-causes : goal.returns-in-Whole-clause-causes
returns-in-Whole-clause-causes g c = ((rw c.in-Whole.is at c.in-Some.ensures.wrote.2) c.args.manner.answered (omega arith)).2

pub returns-in-WriteFault-clause-causes : goal.returns-in-WriteFault-clause-causes
returns-in-WriteFault-clause-causes g c = let d = (rw c.in-WriteFault.is at c.in-Some.ensures.wrote.2) c.args.manner.answered (omega arith) in (d.2, d.3)

-- nothing was written before the named reply
pub returns-in-NoMemory-clause-causes : goal.returns-in-NoMemory-clause-causes
returns-in-NoMemory-clause-causes g c =
    subst (λ (n : ℕ). SentCauses c.tell_want-in-NoMemory.result.sent n (g.K.Sink.faults c.tell_want-in-NoMemory.new.sink)) ((rw c.in-NoMemory.is at c.in-Some.ensures.wrote.2) c.args.manner.answered (omega arith)).1 c.tell_want-in-NoMemory.ensures.causes

-- no response came
pub returns-in_default-clause-causes : goal.returns-in_default-clause-causes
returns-in_default-clause-causes g c =
    subst (λ (n : ℕ). SentCauses c.tell_want.result.sent n (g.K.Sink.faults c.tell_want.new.sink)) (rw c.in_default.is at c.write_next.ensures.wrote).1 c.tell_want.ensures.causes
