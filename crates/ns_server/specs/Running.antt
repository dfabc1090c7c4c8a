-- What a run of the program does.
use Rattle.std.specs.Prelude.{◌≡◌, ℕ, ◌<◌, ◌≤◌, List, [], ◌∷◌, length, take, codes, Option}
use Rattle.txt_core.specs.Names.{Bytes, Words, Names}
use Rattle.outside.specs.Faults.{Rose}
use Rattle.outside.specs.Sending.{Sends}
use Rattle.outside.specs.Writing.{Gains}
use Rattle.outside.specs.declared.sending.Sent.{Sent}
use Rattle.rehearse.specs.declared.answer.Rehearsal.TheVariants as rehearsal
use Rattle.load_gen.specs.Load.{load_file, most_requests}
use Rattle.rehearse.specs.Files.{Holds, whole}
use Rattle.rehearse.specs.Lines.{Line}
use Rattle.rehearse.specs.Rehearsing.{Outside, Rehearses}
use Rattle.rehearse.specs.Summary.{summary, tally_of}
use Rattle.serve_run.specs.Serving.{Around, Serves}
use Rattle.ns_server.specs.declared.status.Status.{Status}
use Rattle.ns_server.specs.declared.status.Status.TheVariants.{Done, BadEvent, BadWords, ReadFault, WriteFault, NoMemory}
use Rattle.ns_server.specs.Loads.{load_events}
use Rattle.ns_server.specs.Statuses.{number_of, line_of, rehearse_words, load_words}

-- What the streams of the program tell of themselves.
pub record Streams : Type 0 where
  -- the bytes that the input has left to give, where it tells them, and how many faults it has met
  pub input : Option Bytes
  pub read_faults : ℕ
  -- the bytes that the output has taken, where it tells them, and how many faults it has met
  pub output : Option Bytes
  pub write_faults : ℕ
  -- the same of errors
  pub errors : Option Bytes
  pub error_faults : ℕ

abbrev pub streams_of : Option Bytes → ℕ → Option Bytes → ℕ → Option Bytes → ℕ → Streams
streams_of input read_faults output write_faults errors error_faults =
    record { input = input; read_faults = read_faults; output = output; write_faults = write_faults; errors = errors; error_faults = error_faults }

-- the input and the output, as a rehearsal sees them
abbrev pub outside_of : Streams → Outside
outside_of s = record { input = s.input; read_faults = s.read_faults; output = s.output; write_faults = s.write_faults }

-- A line was sent to errors: it was taken whole; or errors failed, so their count rose, and they took a
-- front of it. No line is sent where it has no byte.
abbrev pub Tells : Streams → Bytes → Streams → Type 0
Tells before line after = (sent : Sent) × Sends before.errors before.error_faults line sent after.errors after.error_faults

-- ---- a load

-- The words ask for a load of so many requests, from 1 to 100,000.
pub record AsksLoad (words : Words) (requests : ℕ) : Type 0 where
  pub words_are : words ≡ load_words requests
  pub some : 1 ≤ requests
  pub few : requests ≤ most_requests

-- The input isn't touched, and the output took these bytes.
pub record TellsOnly (before after : Streams) (bytes : Bytes) : Type 0 where
  pub input : (after.input ≡ before.input) × (after.read_faults ≡ before.read_faults)
  pub output : Gains before.output bytes after.output

-- The file of so many requests, where the natives have these names, holds the events of such a load and nothing else, and these four
-- lines are counted of their listing.
pub record Summarised (natives : Names) (requests : ℕ) (text : Bytes) : Type 0 where
  pub lines : List Line
  pub holds : Holds natives (load_file requests) (load_events requests) lines whole
  pub text_is : text ≡ summary requests (tally_of lines)

-- The output failed, so its count rose, when it had taken the first so many bytes of the four lines, and not all.
pub record HadLoadFault (natives : Names) (requests : ℕ) (before after : Streams) : Type 0 where
  pub text : Bytes
  pub sent : ℕ
  pub summarised : Summarised natives requests text
  pub sent_less : sent < length text
  pub tells : TellsOnly before after (take sent text)
  pub rose : Rose before.write_faults after.write_faults

-- What a status says of a load of so many requests.
abbrev pub LoadMeans : Names → Status → ℕ → Streams → Streams → Type 0
-- the four lines were written
LoadMeans natives Done requests before after =
    (text : Bytes) × Summarised natives requests text × TellsOnly before after text
LoadMeans natives WriteFault requests before after = HadLoadFault natives requests before after
-- memory ran out, and nothing was written
LoadMeans natives NoMemory requests before after = TellsOnly before after []
-- its file holds events and nothing else, it reads nothing, and its words are a command
LoadMeans natives (BadEvent event) requests before after = ⊥
LoadMeans natives ReadFault requests before after = ⊥
LoadMeans natives BadWords requests before after = ⊥

-- ---- a rehearsal

-- What a status says of a rehearsal.
abbrev pub RehearsalMeans : Names → Status → Streams → Streams → Type 0
-- all events of the input were read, and their listing was written
RehearsalMeans natives Done before after = Rehearses natives (outside_of before) rehearsal.Done (outside_of after)
-- the event of this number is none, all before it are, and the listing of these was written
RehearsalMeans natives (BadEvent event) before after =
    Rehearses natives (outside_of before) (rehearsal.BadEvent event) (outside_of after)
-- the input failed, and the listing of the whole events that it had given was written
RehearsalMeans natives ReadFault before after = Rehearses natives (outside_of before) rehearsal.ReadFault (outside_of after)
-- the output failed, when it had taken a front of the listing and not all of it
RehearsalMeans natives WriteFault before after =
    (sent : ℕ) × Rehearses natives (outside_of before) (rehearsal.WriteFault sent) (outside_of after)
-- memory ran out, and the listing of the events played so far was written
RehearsalMeans natives NoMemory before after = Rehearses natives (outside_of before) rehearsal.NoMemory (outside_of after)
-- its words are a command
RehearsalMeans natives BadWords before after = ⊥

-- ---- both

-- What a status says of the words, the input and the output, where the natives have these names. The words are those of a rehearsal,
-- or of a load; or they are others, and nothing was read or written.
pub data Means (natives : Names) (status : Status) (words : Words) (before after : Streams) : Type 0 where
  rehearses : words ≡ rehearse_words → RehearsalMeans natives status before after → Means natives status words before after
  loads : (requests : ℕ) → AsksLoad words requests → LoadMeans natives status requests before after → Means natives status words before after
  refuses : status ≡ BadWords → ¬ (words ≡ rehearse_words) → ((requests : ℕ) → ¬ (AsksLoad words requests))
      → outside_of after ≡ outside_of before → Means natives status words before after

-- A run ends with the number of a status, did what the status means and told its line on errors,
-- whatever errors did with it.
pub record Ends (natives : Names) (words : Words) (before : Streams) (answer : ℕ) (after : Streams) : Type 0 where
  pub status : Status
  pub answer_is : answer ≡ number_of status
  pub means : Means natives status words before after
  pub tells : Tells before (line_of status) after

-- ---- all commands

-- the first word asks for the server, and the others are its options
abbrev pub AsksServer : Words → Type 0
AsksServer words = (options : Words) × (words ≡ codes "serve" ∷ options)

-- What a run of the program does, where the natives have these names. It serves, and neither reads the input nor writes the output; or it
-- does another command, and leaves the net, the pages and the clock as they are.
pub data Runs (natives : Names) (words : Words) (before : Streams) (around : Around) (answer : ℕ) (after : Streams) (around_after : Around) : Type 0 where
  serves : AsksServer words
      → Serves natives words around answer around_after before.errors before.error_faults after.errors after.error_faults
      → outside_of after ≡ outside_of before → Runs natives words before around answer after around_after
  ends : ¬ (AsksServer words) → Ends natives words before answer after → around_after ≡ around
      → Runs natives words before around answer after around_after
