-- What a rehearsal did, from what its parts did.
use Rattle.std.proofs.Common.{◌≡◌, ℕ, ◌+◌, ◌<◌, ◌≤◌, List, [], ◌∷◌, ◌++◌, length, take, drop, true, Option, Some, None, Result, Ok, Err, refl, sym, subst, ap, ◌∙◌, inl, inr, append_assoc, append-nil, length-append, length-take, min, arith}
use Rattle.std.specs.Prelude.{OnErr}
use Rattle.std.proofs.lemmas.List.{take-append-drop}
use Rattle.std.proofs.Math.Seq.{take-append-add}
use Rattle.outside.specs.Faults.{Rose}
use Rattle.outside.specs.Reading.{Gives}
use Rattle.outside.specs.Writing.{Gains}
use Rattle.outside.proofs.SendingLemmas.{gains_none, gains_more}
use Rattle.rehearse.specs.declared.answer.Rehearsal.{Rehearsal}
use Rattle.rehearse.specs.declared.answer.Rehearsal.TheVariants as answers
use Rattle.rehearse.specs.declared.intake.Stopped.{Stopped}
use Rattle.rehearse.specs.declared.intake.Stopped.TheVariants as stops
use Rattle.rehearse.specs.declared.listing.Listing.{Listing}
use Rattle.rehearse.specs.declared.machine.Machine.{Machine}
use Rattle.rehearse.specs.declared.playback.Play.{Play}
use Rattle.rehearse.specs.declared.tally.Tally.{Tally}
use Rattle.rehearse.specs.declared.worker.Worker as code_worker
use Rattle.rehearse.specs.Events.{Event, most_file, spelled, file_of}
use Rattle.rehearse.specs.Files.{End, whole, bad, ComesNext, Opens, Holds}
use Rattle.rehearse.specs.Intakes.{IntakeState}
use Rattle.rehearse.specs.Lines.{Line, listing_of}
use Rattle.rehearse.specs.Plays.{MayCome, Plays, no_event}
use Rattle.rehearse.specs.Playing.{StopsAt, Fetches, FindsEvent, HasFew, IsNoEvent, ShowsWorkers, Shows, IsMachineReady, Played, Tells, SoFar, IsOfSink, rehearsal_end, by_left, IsCounted}
use Rattle.rehearse.specs.Reading.{IsShort}
use Rattle.rehearse.specs.Rehearsing.{Outside, outside_of, InputHolds, AreFirst, IsProperFront, HadBadEvent, HadWriteFault, RanOut, Ends, Rehearses}
use Rattle.rehearse.specs.Summary.{nothing, with_lines}
use Rattle.rehearse.specs.World.{World, Worker, opening}
use Rattle.rehearse.proofs.Finding.{may_be_short}
use Rattle.rehearse.proofs.Fronts.{front_spelled, spelled_once}
use Rattle.rehearse.proofs.Giving.{gives_none, gives_more, no_bytes, rose_since}
use Rattle.rehearse.proofs.OneFile.{opens_front}
use Rattle.rehearse.proofs.Played.{file_more, count_more, events_len, lists_more, listing_more, counted_more}

-- ---- bytes that are read

opens_more : {natives : List (List ℕ)} {given : List ℕ} {events : List Event} {lines : List Line} {world : World} {left : List ℕ} (more : List ℕ)
    → Opens natives given events lines world left → Opens natives (given ++ more) events lines world (left ++ more)
opens_more {events = events} {left = left} more o = record {
  text_is = ap (λ (t : List ℕ). t ++ more) o.text_is ∙ append_assoc (file_of events) left more;
  in_time = o.in_time;
  plays = o.plays;
}

opens_at : (natives : List (List ℕ)) (given : List ℕ) (events : List Event) (lines : List Line) (world : World) (left other : List ℕ) → left ≡ other
    → Opens natives given events lines world left → Opens natives given events lines world other
opens_at natives given events lines world left other same o = subst (λ (t : List ℕ). Opens natives given events lines world t) same o

-- before the first event
pub begun : (natives : List (List ℕ)) (outside : Outside) (play : Play) → play.intake ≡ record { left = []; place = 0; stopped = None }
    → Shows natives play.machine (opening natives) → IsMachineReady natives play.machine → play.listing.text ≡ [] → play.listing.tally ≡ nothing
    → play.events ≡ 0 → play.written ≡ 0 → SoFar natives outside outside play
begun natives outside play intake shows ready text tally events written = record {
  given = [];
  events = [];
  lines = [];
  world = opening natives;
  passed = [];
  read = gives_none outside.input;
  counts = (omega arith, omega arith);
  stops = subst (λ (i : IntakeState). StopsAt i.stopped outside.input outside.input outside.read_faults outside.read_faults) (sym intake) tt;
  opens = record { text_is = sym (ap (λ (i : IntakeState). i.left) intake); in_time = omega arith; plays = no_event };
  place = ap (λ (i : IntakeState). i.place) intake;
  counted = events;
  shows = shows;
  ready = ready;
  listed = sym text;
  tally = tally;
  written = written;
  gained = gains_none outside.output;
}

-- more was read
pub fetched : (natives : List (List ℕ)) (before now : Outside) (play : Play) (intake : IntakeState) (rest : Option (List ℕ)) (faults : ℕ)
    → SoFar natives before now play → Fetches play.intake now.input now.read_faults intake rest faults
    → SoFar natives before (outside_of rest faults now.output now.write_faults) (record play { intake = intake })
fetched natives before now play intake rest faults s f = record {
  given = s.given ++ f.given;
  events = s.events;
  lines = s.lines;
  world = s.world;
  passed = s.passed;
  read = gives_more before.input now.input rest s.given f.given s.read f.gives;
  counts = (omega (arith, s.counts.0, f.counts), s.counts.1);
  stops = f.stops before.input s.given before.read_faults s.read s.counts.0 s.stops;
  opens = opens_at natives (s.given ++ f.given) s.events s.lines s.world (play.intake.left ++ f.given) intake.left (sym f.left) (opens_more f.given s.opens);
  place = f.place ∙ s.place;
  counted = s.counted;
  shows = s.shows;
  ready = s.ready;
  listed = s.listed;
  tally = s.tally;
  written = s.written;
  gained = s.gained;
}

-- ---- an event that is played

front_is : (left : List ℕ) (size : ℕ) (e : Event) → take size left ≡ spelled e → left ≡ spelled e ++ drop size left
front_is left size e is = sym (take-append-drop size left) ∙ ap (λ (t : List ℕ). t ++ drop size left) is

pub size_is : (left : List ℕ) (size : ℕ) (e : Event) → size ≤ length left → take size left ≡ spelled e → length (spelled e) ≡ size
size_is left size e fits is =
    let len : length (take size left) ≡ min size (length left) = length-take size left in
    let same : length (take size left) ≡ length (spelled e) = ap length is in
    omega (arith, len, same, fits)

pub played : (natives : List (List ℕ)) (outside now : Outside) (before after : Play) (size : ℕ) (e : Event)
    → size ≤ length before.intake.left → before.intake.place + size ≤ most_file → take size before.intake.left ≡ spelled e
    → Played natives true e before.machine before.listing after.machine after.listing
    → IsMachineReady natives after.machine
    → after.intake ≡ record { left = drop size before.intake.left; place = before.intake.place + size; stopped = before.intake.stopped }
    → after.events ≡ before.events + 1 → after.written ≡ before.written
    → SoFar natives outside now before → SoFar natives outside now after
played natives outside now before after size e fits in_time is plays ready intake events written s =
    let n : (lines : List Line) × (next : World) × Plays s.world e lines next × Shows natives after.machine next × Tells before.listing lines after.listing =
    plays s.world s.shows in
    let left : List ℕ = drop size before.intake.left in
    let len : length (spelled e) ≡ size = size_is before.intake.left size e fits is in
    let file_is : file_of (s.events ++ e ∷ []) ≡ file_of s.events ++ spelled e = file_more s.events e in
    let file_len : length (file_of (s.events ++ e ∷ [])) ≡ length (file_of s.events) + length (spelled e) = ap length file_is ∙ length-append (file_of s.events) (spelled e) in
    let text_is : s.given ≡ file_of (s.events ++ e ∷ []) ++ left =
    s.opens.text_is ∙ ap (λ (t : List ℕ). file_of s.events ++ t) (front_is before.intake.left size e is)
    ∙ sym (append_assoc (file_of s.events) (spelled e) left) ∙ ap (λ (t : List ℕ). t ++ left) (sym file_is) in
    let place_is : after.intake.place ≡ before.intake.place + size = ap (λ (i : IntakeState). i.place) intake in
    let tells : (after.listing.text ≡ before.listing.text ++ listing_of n.0) × (after.listing.tally ≡ with_lines before.listing.tally n.0) = n.4 in
    record {
      given = s.given;
      events = s.events ++ e ∷ [];
      lines = s.lines ++ n.0;
      world = n.1;
      passed = s.passed;
      read = s.read;
      counts = s.counts;
      stops = subst (λ (t : Option Stopped). StopsAt t outside.input now.input outside.read_faults now.read_faults) (sym (ap (λ (i : IntakeState). i.stopped) intake)) s.stops;
      opens = opens_at natives s.given (s.events ++ e ∷ []) (s.lines ++ n.0) n.1 left after.intake.left (sym (ap (λ (i : IntakeState). i.left) intake)) (record {
        text_is = text_is;
        in_time = omega (arith, s.place, len, file_len, in_time);
        plays = lists_more e n.0 s.opens.plays n.2;
      });
      place = omega (arith, place_is, s.place, len, file_len);
      counted = omega (arith, events, s.counted, count_more s.events e);
      shows = n.3;
      ready = ready;
      listed =
          listing_more s.lines n.0 ∙ ap (λ (t : List ℕ). t ++ listing_of n.0) s.listed
          ∙ append_assoc s.passed before.listing.text (listing_of n.0) ∙ ap (λ (t : List ℕ). s.passed ++ t) (sym tells.0);
      tally = tells.1 ∙ ap (λ (t : Tally). with_lines t n.0) s.tally ∙ sym (counted_more nothing s.lines n.0);
      written = written ∙ s.written;
      gained = s.gained;
    }

-- ---- what was passed on

pub passed_on : (natives : List (List ℕ)) (before now : Outside) (play : Play) (output : Option (List ℕ)) (faults written : ℕ) (listing : Listing)
    → Gains now.output play.listing.text output → now.write_faults ≤ faults → written ≡ play.written + length play.listing.text
    → listing.text ≡ [] → listing.tally ≡ play.listing.tally
    → SoFar natives before now play
    → SoFar natives before (record now { output = output; write_faults = faults }) (record play { listing = listing; written = written })
passed_on natives before now play output faults written listing gains le is empty tally s = record {
  given = s.given;
  events = s.events;
  lines = s.lines;
  world = s.world;
  passed = s.passed ++ play.listing.text;
  read = s.read;
  counts = (s.counts.0, omega (arith, s.counts.1, le));
  stops = s.stops;
  opens = s.opens;
  place = s.place;
  counted = s.counted;
  shows = s.shows;
  ready = s.ready;
  listed = s.listed ∙ sym (append-nil (s.passed ++ play.listing.text)) ∙ ap (λ (t : List ℕ). (s.passed ++ play.listing.text) ++ t) (sym empty);
  tally = tally ∙ s.tally;
  written = omega (arith, is, s.written, length-append s.passed play.listing.text);
  gained = gains_more before.output now.output output s.passed play.listing.text (s.passed ++ play.listing.text) s.gained gains refl;
}

-- so many events were played, in no fewer bytes
pub so_many : (natives : List (List ℕ)) (before now : Outside) (play : Play) → SoFar natives before now play → (play.events ≤ play.intake.place) × (play.intake.place ≤ most_file)
so_many natives before now play s = (omega (arith, s.counted, s.place, events_len s.events), omega (arith, s.place, s.opens.in_time))

-- the first events of the whole input have the first lines of its listing
are_first : (natives : List (List ℕ)) (told rest : Option (List ℕ)) (given : List ℕ) (events : List Event) (lines : List Line) (world : World) (left : List ℕ)
    → Gives told given rest → Opens natives given events lines world left → AreFirst natives told lines
are_first natives told rest given events lines world left gives opens = λ input is all_events all end holds.
    let x : (more : List ℕ) × (input ≡ given ++ more) × (rest ≡ Some more) = gives input is in
    let whole_input : Opens natives input events lines world (left ++ x.0) =
    subst (λ (t : List ℕ). Opens natives t events lines world (left ++ x.0)) (sym x.1) (opens_more x.0 opens) in
    opens_front natives input events all_events lines all world (left ++ x.0) end whole_input holds

some_behind : (all : List ℕ) (n : ℕ) (more : List ℕ) → n < length all → ¬ (drop n all ++ more ≡ [])
some_behind all n more less e =
    let parts : length all ≡ length (take n all) + length (drop n all) = sym (ap length (take-append-drop n all)) ∙ length-append (take n all) (drop n all) in
    let front : length (take n all) ≡ min n (length all) = length-take n all in
    let sum : length (drop n all ++ more) ≡ length (drop n all) + length more = length-append (drop n all) more in
    let none : length (drop n all ++ more) ≡ 0 = ap length e in
    omega (arith, parts, front, sum, none, less)

is_front : (natives : List (List ℕ)) (told : Option (List ℕ)) (lines : List Line) (n : ℕ) → n < length (listing_of lines)
    → AreFirst natives told lines → IsProperFront natives told (take n (listing_of lines))
is_front natives told lines n less first = λ input is events all end holds.
    let x : (others : List Line) × (all ≡ lines ++ others) = first input is events all end holds in
    let text : List ℕ = listing_of lines in (
      drop n text ++ listing_of x.0,
      some_behind text n (listing_of x.0) less,
      ap listing_of x.1 ∙ listing_more lines x.0 ∙ ap (λ (t : List ℕ). t ++ listing_of x.0) (sym (take-append-drop n text))
          ∙ append_assoc (take n text) (drop n text) (listing_of x.0),
    )

-- the sink failed
pub failed : (natives : List (List ℕ)) (before now : Outside) (play : Play) (output : Option (List ℕ)) (faults sent : ℕ)
    → sent < length play.listing.text → Gains now.output (take sent play.listing.text) output → now.write_faults ≤ faults → Rose now.write_faults faults
    → SoFar natives before now play
    → HadWriteFault natives before (record now { output = output; write_faults = faults }) (play.written + sent)
failed natives before now play output faults sent less gains le rose s =
    let n : ℕ = play.written + sent in
    let len : length (listing_of s.lines) ≡ length s.passed + length play.listing.text = ap length s.listed ∙ length-append s.passed play.listing.text in
    let sent_less : n < length (listing_of s.lines) = omega (arith, len, s.written, less) in
    let first : AreFirst natives before.input s.lines = are_first natives before.input now.input s.given s.events s.lines s.world play.intake.left s.read s.opens in
    let front : s.passed ++ take sent play.listing.text ≡ take n (listing_of s.lines) =
    sym (take-append-add s.passed play.listing.text sent) ∙ ap (λ (k : ℕ). take (k + sent) (s.passed ++ play.listing.text)) (sym s.written)
    ∙ ap (λ (t : List ℕ). take n t) (sym s.listed) in
    record {
      lines = s.lines;
      played = record { given = s.given; events = s.events; world = s.world; left = play.intake.left; read = s.read; opens = s.opens; input = first };
      sent_less = sent_less;
      front = is_front natives before.input s.lines n sent_less first;
      written = gains_more before.output now.output output s.passed (take sent play.listing.text) (take n (listing_of s.lines)) s.gained gains front;
      rose = rose_since before.write_faults now.write_faults faults s.counts.1 rose;
    }

-- ---- an event that doesn't come

shows_length : (natives : List (List ℕ)) (number : ℕ) (xs : List code_worker.Worker) (ys : List Worker) → ShowsWorkers natives number xs ys → length xs ≡ length ys
shows_length natives number [] [] h = refl
shows_length natives number [] (y ∷ ys) h = absurd h
shows_length natives number (x ∷ xs) [] h = absurd h
shows_length natives number (x ∷ xs) (y ∷ ys) h =
    let same : length xs ≡ length ys = shows_length natives (number + 1) xs ys h.2 in omega (arith, same)

pub shows_few : (natives : List (List ℕ)) (machine : Machine) (world : World) → Shows natives machine world → IsMachineReady natives machine → HasFew world
shows_few natives machine world shows ready =
    let same : length machine.workers.items ≡ length world.workers = shows_length natives 0 machine.workers.items world.workers shows.workers in
    omega (arith, same, ready.few)

-- where the bytes in front spell no event, none of so many bytes comes next
pub none_spelled : (natives : List (List ℕ)) (machine : Machine) (place size : ℕ) (left front : List ℕ) → size ≤ length left → front ≡ take size left → IsMachineReady natives machine
    → ((e : Event) → ¬ (IsShort e × (front ≡ spelled e)))
    → (more : List ℕ) (world : World) → Shows natives machine world → (e : Event) → length (spelled e) ≡ size → ¬ (ComesNext world place (left ++ more) e)
none_spelled natives machine place size left front fits is ready never more world shows e len c =
    never e (may_be_short world e (shows_few natives machine world shows ready) c.may_come, is ∙ front_spelled world place left more e size fits len c)

-- where the event that they spell may not come, neither
pub none_may_come : (natives : List (List ℕ)) (machine : Machine) (place size : ℕ) (left front : List ℕ) (d : Event) → size ≤ length left → front ≡ take size left → IsMachineReady natives machine
    → IsShort d → front ≡ spelled d → ((world : World) → Shows natives machine world → ¬ (MayCome world d))
    → (more : List ℕ) (world : World) → Shows natives machine world → (e : Event) → length (spelled e) ≡ size → ¬ (ComesNext world place (left ++ more) e)
none_may_come natives machine place size left front d fits is ready short spells never more world shows e len c =
    let other : IsShort e = may_be_short world e (shows_few natives machine world shows ready) c.may_come in
    let same : e ≡ d = spelled_once e d other short (sym (front_spelled world place left more e size fits len c) ∙ sym is ∙ spells) in
    never world shows (subst (MayCome world) same c.may_come)

-- ---- the end

-- all that was told was passed on
all_passed : (natives : List (List ℕ)) (before now : Outside) (play : Play) → play.listing.text ≡ [] → (s : SoFar natives before now play)
    → Gains before.output (listing_of s.lines) now.output
all_passed natives before now play empty s =
    let same : s.passed ≡ listing_of s.lines = sym (append-nil s.passed) ∙ ap (λ (t : List ℕ). s.passed ++ t) (sym empty) ∙ sym s.listed in
    subst (λ (t : List ℕ). Gains before.output t now.output) same s.gained

pub ran_out : (natives : List (List ℕ)) (before now : Outside) (play : Play) → play.listing.text ≡ [] → SoFar natives before now play → RanOut natives before now
ran_out natives before now play empty s = record {
  lines = s.lines;
  played = record {
    given = s.given;
    events = s.events;
    world = s.world;
    left = play.intake.left;
    read = s.read;
    opens = s.opens;
    input = are_first natives before.input now.input s.given s.events s.lines s.world play.intake.left s.read s.opens;
  };
  written = all_passed natives before now play empty s;
}

so_few : (natives : List (List ℕ)) (before now : Outside) (play : Play) → (s : SoFar natives before now play) → HasFew s.world
so_few natives before now play s = shows_few natives play.machine s.world s.shows s.ready

longer_some : (left more : List ℕ) → ¬ (left ≡ []) → ¬ (left ++ more ≡ [])
longer_some left more some e =
    let len : length left + length more ≡ 0 = sym (length-append left more) ∙ ap length e in
    some (no_bytes left (omega (arith, len)))

-- what is no event, whatever follows, is the end of the input too
bad_input : (natives : List (List ℕ)) (told rest : Option (List ℕ)) (given : List ℕ) (events : List Event) (lines : List Line) (world : World) (left : List ℕ) (number : ℕ)
    → Gives told given rest → Opens natives given events lines world left → number ≡ length events + 1 → ¬ (left ≡ [])
    → ((more : List ℕ) (e : Event) → ¬ (ComesNext world (length (file_of events)) (left ++ more) e))
    → InputHolds natives told events lines (bad number)
bad_input natives told rest given events lines world left number gives opens is some never = λ input told_is.
    let x : (more : List ℕ) × (input ≡ given ++ more) × (rest ≡ Some more) = gives input told_is in
    subst (λ (t : List ℕ). Holds natives t events lines (bad number)) (sym x.1) (record {
      world = world;
      left = left ++ x.0;
      opens = opens_more x.0 opens;
      ends = (is, longer_some left x.0 some, never x.0);
    })

comes_here : (world : World) (place : ℕ) (left : List ℕ) (e : Event) → ComesNext world place left e → ComesNext world place (left ++ []) e
comes_here world place left e c = subst (λ (t : List ℕ). ComesNext world place t e) (sym (append-nil left)) c

-- no event is there, whatever follows
bad_end : (natives : List (List ℕ)) (before now : Outside) (play : Play) (number : ℕ) → play.listing.text ≡ [] → number ≡ play.events + 1
    → ¬ (play.intake.left ≡ []) → (s : SoFar natives before now play)
    → ((more : List ℕ) (e : Event) → ¬ (ComesNext s.world play.intake.place (play.intake.left ++ more) e))
    → HadBadEvent natives before now number
bad_end natives before now play number empty is some s never =
    let count : number ≡ length s.events + 1 = is ∙ ap (λ (n : ℕ). n + 1) s.counted in
    let none : (more : List ℕ) (e : Event) → ¬ (ComesNext s.world (length (file_of s.events)) (play.intake.left ++ more) e) =
    λ more e c. never more e (subst (λ (n : ℕ). ComesNext s.world n (play.intake.left ++ more) e) (sym s.place) c) in
    record {
      given = s.given;
      events = s.events;
      lines = s.lines;
      performs = record {
        read = s.read;
        holds = record {
          world = s.world;
          left = play.intake.left;
          opens = s.opens;
          ends = (count, some, λ e c. none [] e (comes_here s.world (length (file_of s.events)) play.intake.left e c));
        };
      };
      input = bad_input natives before.input now.input s.given s.events s.lines s.world play.intake.left number s.read s.opens count some none;
      written = all_passed natives before now play empty s;
    }

-- the event in front may not come
pub barred : (natives : List (List ℕ)) (before now : Outside) (play : Play) (number size : ℕ) → play.listing.text ≡ [] → number ≡ play.events + 1
    → FindsEvent (Some size) play.intake
    → ((more : List ℕ) (world : World) → Shows natives play.machine world → (e : Event) → length (spelled e) ≡ size → ¬ (ComesNext world play.intake.place (play.intake.left ++ more) e))
    → SoFar natives before now play → HadBadEvent natives before now number
barred natives before now play number size empty is finds never s =
    bad_end natives before now play number empty is (some_left play.intake.left size finds.0 finds.1) s
    (λ more e c. never more s.world s.shows e (finds.3 more s.world e (so_few natives before now play s) c) c)
  where
    some_left : (left : List ℕ) (n : ℕ) → 0 < n → n ≤ length left → ¬ (left ≡ [])
    some_left left n some fits e = let none : length left ≡ 0 = ap length e in omega (arith, none, some, fits)

-- the input ended: it is what was given
input_given : (told rest : Option (List ℕ)) (given : List ℕ) → Gives told given rest → ((input : List ℕ) → told ≡ Some input → rest ≡ Some [])
    → (input : List ℕ) → told ≡ Some input → input ≡ given
input_given told rest given gives end input is =
    let x : (more : List ℕ) × (input ≡ given ++ more) × (rest ≡ Some more) = gives input is in
    let none : x.0 ≡ [] = same_some x.0 [] (sym x.2 ∙ end input is) in
    x.1 ∙ ap (λ (t : List ℕ). given ++ t) none ∙ append-nil given
  where
    same_some : (a b : List ℕ) → Some a ≡ Some b → a ≡ b
    same_some a b e = cc

given_holds : (natives : List (List ℕ)) (told rest : Option (List ℕ)) (given : List ℕ) (events : List Event) (lines : List Line) (end : End)
    → Gives told given rest → ((input : List ℕ) → told ≡ Some input → rest ≡ Some []) → Holds natives given events lines end → InputHolds natives told events lines end
given_holds natives told rest given events lines end gives at_end holds = λ input is.
    subst (λ (t : List ℕ). Holds natives t events lines end) (sym (input_given told rest given gives at_end input is)) holds

-- how what was read ends
abbrev end_of : List ℕ → ℕ → End
end_of [] number = whole
end_of (byte ∷ left) number = bad number

ends_so : (natives : List (List ℕ)) (before now : Outside) (play : Play) (number : ℕ) (left : List ℕ) → play.intake.left ≡ left → number ≡ play.events + 1
    → (s : SoFar natives before now play) → IsNoEvent play.intake [] → Holds natives s.given s.events s.lines (end_of left number)
ends_so natives before now play number [] is count s never = record { world = s.world; left = play.intake.left; opens = s.opens; ends = is }
ends_so natives before now play number (byte ∷ left) is count s never = record {
  world = s.world;
  left = play.intake.left;
  opens = s.opens;
  ends = (
    count ∙ ap (λ (n : ℕ). n + 1) s.counted,
    (λ e. let k : [] ≡ byte ∷ left = sym e ∙ is in cc),
    λ e c.
        never s.world e (so_few natives before now play s)
        (comes_here s.world play.intake.place play.intake.left e (subst (λ (n : ℕ). ComesNext s.world n play.intake.left e) (sym s.place) c)),
  );
}

at_end : (natives : List (List ℕ)) (before now : Outside) (play : Play) (number : ℕ) (left : List ℕ) → play.listing.text ≡ [] → play.intake.left ≡ left → number ≡ play.events + 1
    → play.intake.stopped ≡ Some stops.AtEnd
    → (s : SoFar natives before now play) → IsNoEvent play.intake [] → Ends natives before (by_left left number) now
at_end natives before now play number [] empty is count stopped s never =
    let end : (input : List ℕ) → before.input ≡ Some input → now.input ≡ Some [] =
    subst (λ (t : Option Stopped). StopsAt t before.input now.input before.read_faults now.read_faults) stopped s.stops in
    let holds : Holds natives s.given s.events s.lines whole = ends_so natives before now play number [] is count s never in
    record {
      given = s.given;
      events = s.events;
      lines = s.lines;
      performs = record { read = s.read; holds = holds };
      input = given_holds natives before.input now.input s.given s.events s.lines whole s.read end holds;
      at_end = end;
      written = all_passed natives before now play empty s;
    }
at_end natives before now play number (byte ∷ left) empty is count stopped s never =
    let end : (input : List ℕ) → before.input ≡ Some input → now.input ≡ Some [] =
    subst (λ (t : Option Stopped). StopsAt t before.input now.input before.read_faults now.read_faults) stopped s.stops in
    let holds : Holds natives s.given s.events s.lines (bad number) = ends_so natives before now play number (byte ∷ left) is count s never in
    record {
      given = s.given;
      events = s.events;
      lines = s.lines;
      performs = record { read = s.read; holds = holds };
      input = given_holds natives before.input now.input s.given s.events s.lines (bad number) s.read end holds;
      written = all_passed natives before now play empty s;
    }

by_stop : (natives : List (List ℕ)) (before now : Outside) (play : Play) (number : ℕ) (stopped : Option Stopped) → play.listing.text ≡ [] → number ≡ play.events + 1
    → play.intake.stopped ≡ stopped → SoFar natives before now play → FindsEvent None play.intake
    → Ends natives before (rehearsal_end stopped play.intake.left number) now
by_stop natives before now play number None empty count stopped s finds =
    elim finds.1 [
      | inl still ↦ absurd (still stopped)
      | inr never ↦
          bad_end natives before now play number empty count never.0 s
          (λ more e c. never.1 more s.world e (so_few natives before now play s) c)
    ]
by_stop natives before now play number (Some stops.AtEnd) empty count stopped s finds =
    at_end natives before now play number play.intake.left empty refl count stopped s finds.0
by_stop natives before now play number (Some stops.AtFault) empty count stopped s finds = record {
  given = s.given;
  events = s.events;
  lines = s.lines;
  end = end_of play.intake.left number;
  performs = record { read = s.read; holds = ends_so natives before now play number play.intake.left refl count s finds.0 };
  written = all_passed natives before now play empty s;
  rose = subst (λ (t : Option Stopped). StopsAt t before.input now.input before.read_faults now.read_faults) stopped s.stops;
}

-- no event comes any more
pub ended : (natives : List (List ℕ)) (before now : Outside) (play : Play) (number : ℕ) → play.listing.text ≡ [] → number ≡ play.events + 1
    → SoFar natives before now play → FindsEvent None play.intake
    → Ends natives before (rehearsal_end play.intake.stopped play.intake.left number) now
ended natives before now play number empty count s finds = by_stop natives before now play number play.intake.stopped empty count refl s finds

-- ---- what was counted

counts_at_end : (natives : List (List ℕ)) (before now : Outside) (play : Play) (number : ℕ) (left : List ℕ) → play.intake.left ≡ left → number ≡ play.events + 1
    → play.intake.stopped ≡ Some stops.AtEnd → SoFar natives before now play → IsNoEvent play.intake []
    → IsCounted natives before.input (by_left left number) play.listing.tally
counts_at_end natives before now play number [] is count stopped s never = λ input told_is.
    let end : (input : List ℕ) → before.input ≡ Some input → now.input ≡ Some [] =
    subst (λ (t : Option Stopped). StopsAt t before.input now.input before.read_faults now.read_faults) stopped s.stops in (
      s.events,
      s.lines,
      given_holds natives before.input now.input s.given s.events s.lines whole s.read end (ends_so natives before now play number [] is count s never) input told_is,
      s.tally,
    )
counts_at_end natives before now play number (byte ∷ left) is count stopped s never = tt

counts_by_stop : (natives : List (List ℕ)) (before now : Outside) (play : Play) (number : ℕ) (stopped : Option Stopped) → number ≡ play.events + 1
    → play.intake.stopped ≡ stopped → SoFar natives before now play → FindsEvent None play.intake
    → IsCounted natives before.input (rehearsal_end stopped play.intake.left number) play.listing.tally
counts_by_stop natives before now play number None count stopped s finds = tt
counts_by_stop natives before now play number (Some stops.AtEnd) count stopped s finds =
    counts_at_end natives before now play number play.intake.left refl count stopped s finds.0
counts_by_stop natives before now play number (Some stops.AtFault) count stopped s finds = tt

pub counted : (natives : List (List ℕ)) (before now : Outside) (play : Play) (number : ℕ) → number ≡ play.events + 1
    → SoFar natives before now play → FindsEvent None play.intake
    → IsCounted natives before.input (rehearsal_end play.intake.stopped play.intake.left number) play.listing.tally
counted natives before now play number count s finds = counts_by_stop natives before now play number play.intake.stopped count refl s finds

-- a fault of the sink counts nothing
pub sink_counted : (natives : List (List ℕ)) (told : Option (List ℕ)) (answer : Rehearsal) (tally : Tally) → IsOfSink (Some answer) → IsCounted natives told answer tally
sink_counted natives told answers.Done tally h = absurd h
sink_counted natives told (answers.BadEvent event) tally h = tt
sink_counted natives told answers.ReadFault tally h = tt
sink_counted natives told (answers.WriteFault sent) tally h = tt
sink_counted natives told answers.NoMemory tally h = tt

-- ---- memory that ran out

pub on_err : {A E : Type 0} (r : Result A E) (P : Type 0) → P → OnErr r P
on_err (Ok x) P h = tt
on_err (Err e) P h = h

pub runs_out : (natives : List (List ℕ)) (before now : Outside) (play : Play) → play.listing.text ≡ [] → SoFar natives before now play
    → Rehearses natives before answers.NoMemory now
runs_out natives before now play empty s = (s.counts, ran_out natives before now play empty s)

-- before the first event
pub runs_out_at_once : (natives : List (List ℕ)) (outside : Outside) → Rehearses natives outside answers.NoMemory outside
runs_out_at_once natives outside = (
  (omega arith, omega arith),
  record {
    lines = [];
    played = record {
      given = [];
      events = [];
      world = opening natives;
      left = [];
      read = gives_none outside.input;
      opens = record { text_is = refl; in_time = omega arith; plays = no_event };
      input = λ input is events all end holds. (all, refl);
    };
    written = gains_none outside.output;
  },
)
