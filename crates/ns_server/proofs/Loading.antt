-- What a load comes to.
use Rattle.std.proofs.Common.{◌≡◌, ◌<◌, ◌≤◌, ℕ, List, [], ◌++◌, length, take, Option, Some, refl, sym, ap, ◌∙◌, subst, append-nil}
use Rattle.outside.specs.Writing.{Gains}
use Rattle.outside.specs.Faults.{Rose}
use Rattle.load_gen.specs.Load.{load_file, most_requests}
use Rattle.rehearse.specs.declared.playback.Counted.TheVariants as counts
use Rattle.rehearse.specs.declared.tally.Tally.{Tally}
use Rattle.rehearse.specs.Events.{Event}
use Rattle.rehearse.specs.Files.{Holds, whole, bad}
use Rattle.rehearse.specs.Lines.{Line}
use Rattle.rehearse.specs.Summary.{summary, tally_of, Counts}
use Rattle.ns_server.specs.declared.status.Status.{Status}
use Rattle.ns_server.specs.declared.status.Status.TheVariants.{Done, BadEvent, BadWords, ReadFault, WriteFault, NoMemory}
use Rattle.ns_server.specs.Answers.{WritesSummary}
use Rattle.ns_server.specs.Loads.{load_events}
use Rattle.ns_server.specs.Running.{Streams, Summarised, LoadMeans}
use Rattle.ns_server.proofs.OneLoad.{load_holds}

-- its file has no bad event
pub no_bad_event : (natives : List (List ℕ)) (n : ℕ) (file : List ℕ) (event : ℕ) → n ≤ most_requests → file ≡ load_file n → Counts natives file (counts.BadEvent event) → ⊥
no_bad_event natives n file event few is counted =
    let e : bad event ≡ whole = (load_holds natives n file counted.0 counted.1 (bad event) few is counted.2).1 in
    cc

-- what is counted of its file is counted of the listing of its events
pub summarised : (natives : List (List ℕ)) (n : ℕ) (file : List ℕ) (tally : Tally) → n ≤ most_requests → file ≡ load_file n → Counts natives file (counts.Done tally) → Summarised natives n (summary n tally)
summarised natives n file tally few is counted =
    let events : counted.0 ≡ load_events n = (load_holds natives n file counted.0 counted.1 whole few is counted.2).0 in
    record {
      lines = counted.1;
      holds = subst (λ (text : List ℕ). Holds natives text (load_events n) counted.1 whole) is (subst (λ (es : List Event). Holds natives file es counted.1 whole) events counted.2);
      text_is = ap (λ (t : Tally). summary n t) counted.3;
    }

gains_from : (text : List ℕ) (before taken after : Option (List ℕ)) → before ≡ taken → Gains taken text after → Gains before text after
gains_from text before taken after is h = subst (λ (t : Option (List ℕ)). Gains t text after) (sym is) h

gains_nothing : (before taken after : Option (List ℕ)) → before ≡ taken → after ≡ taken → Gains before [] after
gains_nothing before taken after is same bytes told = same ∙ sym is ∙ told ∙ ap (λ (t : List ℕ). Some t) (sym (append-nil bytes))

-- the lines are written, and nothing else is touched
pub load_means : (natives : List (List ℕ)) (requests : ℕ) (text : List ℕ) (status : Status) (before : Streams) (taken after : Option (List ℕ)) (faults faults_after : ℕ)
    → Summarised natives requests text → before.output ≡ taken → before.write_faults ≡ faults → WritesSummary text taken faults status after faults_after
    → LoadMeans natives status requests before (record before { output = after; write_faults = faults_after })
load_means natives requests text Done before taken after faults faults_after s o f h =
    (text, s, record { input = (refl, refl); output = gains_from text before.output taken after o h })
load_means natives requests text WriteFault before taken after faults faults_after s o f h = record {
  text = text;
  sent = h.0;
  summarised = s;
  sent_less = h.1;
  tells = record { input = (refl, refl); output = gains_from (take h.0 text) before.output taken after o h.2 };
  rose = subst (λ (n : ℕ). Rose n faults_after) (sym f) h.3;
}
load_means natives requests text NoMemory before taken after faults faults_after s o f h =
    record { input = (refl, refl); output = gains_nothing before.output taken after o h.0 }
load_means natives requests text (BadEvent event) before taken after faults faults_after s o f h = absurd h
load_means natives requests text BadWords before taken after faults faults_after s o f h = absurd h
load_means natives requests text ReadFault before taken after faults faults_after s o f h = absurd h

-- whatever errors do
pub load_reported : (natives : List (List ℕ)) (status : Status) (requests : ℕ) (before after : Streams) (errors : Option (List ℕ)) (faults : ℕ)
    → LoadMeans natives status requests before after → LoadMeans natives status requests before (record after { errors = errors; error_faults = faults })
load_reported natives Done requests before after errors faults h = (h.0, h.1, record { input = h.2.input; output = h.2.output })
load_reported natives WriteFault requests before after errors faults h = record {
  text = h.text;
  sent = h.sent;
  summarised = h.summarised;
  sent_less = h.sent_less;
  tells = record { input = h.tells.input; output = h.tells.output };
  rose = h.rose;
}
load_reported natives NoMemory requests before after errors faults h = record { input = h.input; output = h.output }
load_reported natives (BadEvent event) requests before after errors faults h = absurd h
load_reported natives BadWords requests before after errors faults h = absurd h
load_reported natives ReadFault requests before after errors faults h = absurd h
