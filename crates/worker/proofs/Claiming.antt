-- What is promised of a session as a whole, from its steps.
use Rattle.std.proofs.Common.{◌≡◌, ◌≢◌, ◌⊎◌, inl, inr, ⊎_elim, ℕ, zero, suc, ◌+◌, ◌<◌, ◌≤◌, Bool, true, false, List, [], ◌∷◌, ◌++◌, length, take, drop, map, Option, None, Some, refl, sym, ap, ◌∙◌, subst, append_assoc, arith}
use Rattle.std.specs.Prelude.{min}
use Rattle.std.proofs.Math.Seq.{take-nil}
use Rattle.std.proofs.lemmas.List.{append-nil}
use Rattle.std.proofs.lemmas.List.Sums.{sum_by-cons}
use Rattle.txt_core.specs.Limits.{moment_of, last_moment}
use Rattle.outside.specs.Clocks.{Dial, Shows, read_dial}
use Rattle.outside.specs.Faults.{Rose}
use Rattle.outside.specs.Paging.{PageMap}
use Rattle.outside.specs.Writing.{Gains}
use Rattle.http_req.specs.Outcomes.{Gets, Whole}
use Rattle.http_req.specs.Readings.{left_of}
use Rattle.shared_state.specs.declared.shared.Passes.{Passes}
use Rattle.shared_state.specs.Views.{BlueEntry}
use Rattle.worker.specs.Turns.{Turn, OnBlueprint, IsLook, GainsTurns}
use Rattle.worker.specs.Runs.{Course, Finished, is_marked}
use Rattle.worker.specs.Clean.{Standing}
use Rattle.worker.specs.Cost.{renewal, vain_cost, run_cost}
use Rattle.worker.specs.Outside.{Ticks, AreReadings, AreHeld, page_faults, RoseBy, Reads}
use Rattle.worker.specs.Items.{Item, all_turns, run_of, bytes_of, Replied, Backs, IsWritten}
use Rattle.worker.specs.Ends.{Finish, Nothing, Refuses, Wants, finish_moments, GoesOnBehind, EndsWith, EndsBehind, end_bytes, LeavesInput}
use Rattle.worker.specs.Sessions.{At, answered_by, StandsBehind, stands_at, Finishes, Serves, ServesAll, Last, with_item, behind_all, IsSession}
use Rattle.worker.specs.Claims.{session_bytes, AreReplied, AreRead, Replies, finish_turns, session_turns, IsVainLook, AreBacked, Backed, bill_of, bills_of, standing_behind, finish_cost, Cost, session_moments, Causes, IsGoodEnd, SomeWants, AreWhole, IsComplete, Promised}
use Rattle.worker.specs.declared.served.Served.{Served}
use Rattle.worker.specs.declared.served.ServedOutcome.TheVariants as ways
use Rattle.worker.specs.declared.served.End.{End as SessionEnd}
use Rattle.worker.specs.declared.served.End.TheVariants as ends
use Rattle.worker.proofs.Turning.{gains_none, gains_more}
use Rattle.worker.proofs.Hearing.{held_none, held_one, held_more, rose_more, rose_two, rose_none}

-- ---- moments

readings_none : (clock : Option Dial) → AreReadings clock []
readings_none None = tt
readings_none (Some dial) = tt

told_moment : (moment reading at : ℕ) → moment ≡ moment_of reading → reading ≡ at → reading ≤ last_moment → moment ≡ at
told_moment moment reading at is same le = omega (arith, is, same, le)

readings_more : (clock later : Option Dial) (moment : ℕ) (moments : List ℕ) → Ticks clock moment later → AreReadings later moments → AreReadings clock (moment ∷ moments)
readings_more None later moment moments ticks rest = tt
readings_more (Some dial) later moment moments ticks rest =
    let s = ticks.1 dial refl in
    (told_moment moment ticks.0 dial.moment ticks.2 s.0 s.1, subst (λ (c : Option Dial). AreReadings c moments) s.2 rest)

-- ---- bytes

gains_more_bytes : (a b c : Option (List ℕ)) (xs ys : List ℕ) → Gains a xs b → Gains b ys c → Gains a (xs ++ ys) c
gains_more_bytes a b c xs ys g h = λ taken is. h (taken ++ xs) (g taken is) ∙ ap (λ (l : List ℕ). Some l) (append_assoc taken xs ys)

no_bytes : (end : SessionEnd) → end_bytes end Nothing ≡ []
no_bytes (ends.WriteFault sent) = take-nil sent
no_bytes ends.Ended = refl
no_bytes ends.Closing = refl
no_bytes (ends.Truncated have) = refl
no_bytes (ends.Refused status) = refl
no_bytes ends.Spent = refl
no_bytes ends.ReadFault = refl
no_bytes ends.NoMemory = refl

-- ---- the input behind a last item

leaves_with : (peer : List ℕ) (end : SessionEnd) (count answered : ℕ) (x : Served) (item : Item) (unread : Option (List ℕ)) (input : List ℕ) → EndsWith end count answered x item → LeavesInput peer end Nothing unread input
leaves_with peer ends.Closing count answered x item unread input with = tt
leaves_with peer ends.Spent count answered x item unread input with = tt
leaves_with peer (ends.WriteFault sent) count answered x item unread input with = tt
leaves_with peer ends.NoMemory count answered x item unread input with = tt
leaves_with peer ends.Ended count answered x item unread input with = absurd with
leaves_with peer (ends.Truncated have) count answered x item unread input with = absurd with
leaves_with peer (ends.Refused status) count answered x item unread input with = absurd with
leaves_with peer ends.ReadFault count answered x item unread input with = absurd with

-- ---- what holds of the rest of a session

-- From here on, with so many served before and answers of so many bytes, these are what stands behind the items that follow.
record Told (names : List (List ℕ)) (held : Option PageMap) (peer : List ℕ) (i unread : Option (List ℕ)) (count answered : ℕ) (a : At) (end : SessionEnd) (xs : List Served) (b : At) : Type 0 where
  items : List Item
  finish : Finish
  replied : AreReplied names count answered end xs items finish
  reads : (bytes : List ℕ) → i ≡ Some bytes → AreRead names peer end items finish unread bytes
  writes : Gains a.output (session_bytes end xs items finish) b.output
  gains : GainsTurns a.passes (session_turns items finish) b.passes
  backed : AreBacked names xs items finish
  pages : AreHeld held (session_turns items finish)
  counts : RoseBy (page_faults (session_turns items finish)) a.faults b.faults
  moments : AreReadings a.clock (session_moments xs finish)
  paid : b.steps ≤ a.steps + Cost names a.standing (bills_of names xs items) finish

-- ---- behind all items

finish_gains : (names : List (List ℕ)) (finish : Finish) (a b : At) → Finishes names finish a b → GainsTurns a.passes (finish_turns finish) b.passes
finish_gains names Nothing a b f = subst (λ (q : Passes). GainsTurns a.passes [] q) (sym f.0.0) (gains_none a.passes)
finish_gains names (Refuses status moment) a b f = subst (λ (q : Passes). GainsTurns a.passes [] q) (sym f.0.0) (gains_none a.passes)
finish_gains names (Wants moment None) a b f = subst (λ (q : Passes). GainsTurns a.passes [] q) (sym f.0.0) (gains_none a.passes)
finish_gains names (Wants moment (Some look)) a b f = f.0.1

finish_vain : (names : List (List ℕ)) (finish : Finish) (a b : At) → Finishes names finish a b → IsVainLook finish
finish_vain names Nothing a b f = tt
finish_vain names (Refuses status moment) a b f = tt
finish_vain names (Wants moment None) a b f = tt
finish_vain names (Wants moment (Some look)) a b f = f.0.0

finish_pages : (held : Option PageMap) (finish : Finish) → AreHeld held (finish_turns finish)
finish_pages held Nothing = held_none held
finish_pages held (Refuses status moment) = held_none held
finish_pages held (Wants moment None) = held_none held
finish_pages held (Wants moment (Some look)) = held_one held (OnBlueprint look) (λ map is. tt)

rose_still : (a b : ℕ) → b ≡ a → RoseBy 0 a b
rose_still a b is = inl (omega (arith, is))

finish_counts : (names : List (List ℕ)) (finish : Finish) (a b : At) → Finishes names finish a b → RoseBy (page_faults (finish_turns finish)) a.faults b.faults
finish_counts names Nothing a b f = rose_still a.faults b.faults f.0.2
finish_counts names (Refuses status moment) a b f = rose_still a.faults b.faults f.0.2
finish_counts names (Wants moment None) a b f = rose_still a.faults b.faults f.0.2
finish_counts names (Wants moment (Some look)) a b f = rose_still a.faults b.faults f.2

finish_read : (names : List (List ℕ)) (finish : Finish) (a b : At) → Finishes names finish a b → AreReadings a.clock (finish_moments finish)
finish_read names Nothing a b f = readings_none a.clock
finish_read names (Refuses status moment) a b f = readings_more a.clock b.clock moment [] f.1 (readings_none b.clock)
finish_read names (Wants moment None) a b f = readings_more a.clock b.clock moment [] f.1 (readings_none b.clock)
finish_read names (Wants moment (Some look)) a b f = readings_more a.clock b.clock moment [] f.4 (readings_none b.clock)

same_cost : (a b : ℕ) → b ≡ a → b ≤ a + 0
same_cost a b is = omega (arith, is)

finish_paid : (names : List (List ℕ)) (finish : Finish) (a b : At) → Finishes names finish a b → b.steps ≤ a.steps + finish_cost names a.standing finish
finish_paid names Nothing a b f = same_cost a.steps b.steps f.0.3
finish_paid names (Refuses status moment) a b f = same_cost a.steps b.steps f.0.3
finish_paid names (Wants moment None) a b f = same_cost a.steps b.steps f.0.3
finish_paid names (Wants moment (Some look)) a b f = f.3

told_behind : (names : List (List ℕ)) (held : Option PageMap) (peer : List ℕ) (i unread : Option (List ℕ)) (count answered : ℕ) (a : At) (end : SessionEnd) (b : At) (finish : Finish)
    → EndsBehind end finish → ((input : List ℕ) → i ≡ Some input → LeavesInput peer end finish unread input) → Finishes names finish a b → Gains a.output (end_bytes end finish) b.output
    → Told names held peer i unread count answered a end [] b
told_behind names held peer i unread count answered a end b finish with leaves does gains = record {
  items = [];
  finish = finish;
  replied = with;
  reads = leaves;
  writes = gains;
  gains = finish_gains names finish a b does;
  backed = finish_vain names finish a b does;
  pages = finish_pages held finish;
  counts = finish_counts names finish a b does;
  moments = finish_read names finish a b does;
  paid = finish_paid names finish a b does;
}

-- ---- one item in front of the rest

item_gains : (names : List (List ℕ)) (held : Option PageMap) (count answered : ℕ) (item : Item) (a : At) (x : Served) (b : At) (rest : List Turn) (q : Passes) → Serves names held count answered item a x b → GainsTurns b.passes rest q
    → GainsTurns a.passes (OnBlueprint item.look ∷ (all_turns item ++ rest)) q
item_gains names held count answered item a x b rest q s g =
    gains_more a.passes s.mid q (OnBlueprint item.look ∷ []) (all_turns item ++ rest) s.looks.1 (gains_more s.mid b.passes q (all_turns item) rest s.gains g)

item_pages : (names : List (List ℕ)) (held : Option PageMap) (count answered : ℕ) (item : Item) (a : At) (x : Served) (b : At) (rest : List Turn) → Serves names held count answered item a x b → AreHeld held rest
    → AreHeld held (OnBlueprint item.look ∷ (all_turns item ++ rest))
item_pages names held count answered item a x b rest s g =
    held_more held (OnBlueprint item.look ∷ []) (all_turns item ++ rest) (held_one held (OnBlueprint item.look) (λ map is. tt)) (held_more held (all_turns item) rest s.pages g)

item_counts : (names : List (List ℕ)) (held : Option PageMap) (count answered : ℕ) (item : Item) (a : At) (x : Served) (b : At) (rest : List Turn) (after : ℕ) → Serves names held count answered item a x b → RoseBy (page_faults rest) b.faults after
    → RoseBy (page_faults (OnBlueprint item.look ∷ (all_turns item ++ rest))) a.faults after
item_counts names held count answered item a x b rest after s g =
    rose_more 0 (page_faults (all_turns item ++ rest)) a.faults a.faults after (rose_none a.faults) (rose_two (all_turns item) rest a.faults b.faults after s.page_counts g)

item_paid : (before middle after one run rest : ℕ) → middle ≤ before + one + run → after ≤ middle + rest → after ≤ before + (one + run + rest)
item_paid before middle after one run rest g h = omega (arith, g, h)

told_last : (names : List (List ℕ)) (held : Option PageMap) (peer : List ℕ) (i j unread : Option (List ℕ)) (count answered : ℕ) (a : At) (end : SessionEnd) (x : Served) (item : Item) (b : At)
    → Reads peer i item.request j → Serves names held count answered item a x b → EndsWith end count answered x item → Told names held peer i unread count answered a end (x ∷ []) b
told_last names held peer i j unread count answered a end x item b reads s with = record {
  items = item ∷ [];
  finish = Nothing;
  replied = (s.replied, inr (with, refl, refl, refl));
  reads = λ bytes is. let r = reads bytes is in (r.0, r.2, leaves_with peer end count answered x item unread (drop r.0 bytes) with);
  writes = subst (λ (l : List ℕ). Gains a.output (take x.wrote item.reply ++ l) b.output) (sym (no_bytes end)) (subst (λ (l : List ℕ). Gains a.output l b.output) (sym (append-nil (take x.wrote item.reply))) s.writes);
  gains = item_gains names held count answered item a x b [] b.passes s (gains_none b.passes);
  backed = (s.backs, tt);
  pages = item_pages names held count answered item a x b [] s (held_none held);
  counts = item_counts names held count answered item a x b [] b.faults s (rose_none b.faults);
  moments = readings_more a.clock b.clock x.moment [] s.ticks (readings_none b.clock);
  paid = item_paid a.steps b.steps b.steps (renewal names a.standing item.look.before) (run_cost (run_of names item x.moment x.answers)) 0 s.steps (omega arith);
}

stands_finished : (names : List (List ℕ)) (x : Served) (item : Item) (standing : Option Standing) → item.course ≡ Finished → StandsBehind names item.course x item standing → standing ≡ standing_behind names (bill_of names x item)
stands_finished names x item standing is stands = subst (λ (c : Course). StandsBehind names c x item standing) is stands

told_more : (names : List (List ℕ)) (held : Option PageMap) (peer : List ℕ) (i k unread : Option (List ℕ)) (count answered : ℕ) (a m : At) (end : SessionEnd) (x : Served) (xs : List Served) (item : Item) (b : At)
    → Reads peer i item.request k → Serves names held count answered item a x m → GoesOnBehind count answered x item
    → Told names held peer k unread (count + 1) (answered + bytes_of x.answers) m end xs b
    → Told names held peer i unread count answered a end (x ∷ xs) b
told_more names held peer i k unread count answered a m end x xs item b reads s goes t = record {
  items = item ∷ t.items;
  finish = t.finish;
  replied = (s.replied, inl (goes, t.replied));
  reads = λ bytes is. let r = reads bytes is in (r.0, r.2, subst (λ (l : List ℕ). AreRead names peer end t.items t.finish unread l) r.3 (t.reads r.1 r.4));
  writes = gains_more_bytes a.output m.output b.output (take x.wrote item.reply) (session_bytes end xs t.items t.finish) s.writes t.writes;
  gains = item_gains names held count answered item a x m (session_turns t.items t.finish) b.passes s t.gains;
  backed = (s.backs, t.backed);
  pages = item_pages names held count answered item a x m (session_turns t.items t.finish) s t.pages;
  counts = item_counts names held count answered item a x m (session_turns t.items t.finish) b.faults s t.counts;
  moments = readings_more a.clock m.clock x.moment (session_moments xs t.finish) s.ticks t.moments;
  paid = item_paid a.steps m.steps b.steps (renewal names a.standing item.look.before) (run_cost (run_of names item x.moment x.answers)) (Cost names (standing_behind names (bill_of names x item)) (bills_of names xs t.items) t.finish) s.steps
      (subst (λ (z : Option Standing). b.steps ≤ m.steps + Cost names z (bills_of names xs t.items) t.finish) (stands_finished names x item m.standing goes.0 s.stands) t.paid);
}

-- ---- all items

told_end : (names : List (List ℕ)) (held : Option PageMap) (peer : List ℕ) (i unread : Option (List ℕ)) (count answered : ℕ) (a : At) (end : SessionEnd) (tail : List Served) (b : At) → Last names held peer i unread count answered a end tail b → Told names held peer i unread count answered a end tail b
told_end names held peer i unread count answered a end tail b (with_item x item j is reads serves with) =
    subst (λ (l : List Served). Told names held peer i unread count answered a end l b) (sym is) (told_last names held peer i j unread count answered a end x item b reads serves with)
told_end names held peer i unread count answered a end tail b (behind_all finish is with leaves does gains) =
    subst (λ (l : List Served). Told names held peer i unread count answered a end l b) (sym is) (told_behind names held peer i unread count answered a end b finish with leaves does gains)

told_all : (names : List (List ℕ)) (held : Option PageMap) (peer : List ℕ) (i j unread : Option (List ℕ)) (count answered here had : ℕ) (a m : At) (end : SessionEnd) (xs tail : List Served) (b : At)
    → here ≡ count + length xs → had ≡ answered + answered_by xs → ServesAll names held peer i count answered a xs j m → Told names held peer j unread here had m end tail b
    → Told names held peer i unread count answered a end (xs ++ tail) b
told_all names held peer i j unread count answered here had a m end [] tail b at by s t =
    let n : here ≡ count = omega (arith, at) in let h : had ≡ answered = omega (arith, by) in
    subst (λ (o : Option (List ℕ)). Told names held peer o unread count answered a end tail b) (sym s.0)
    (subst (λ (z : At). Told names held peer j unread count answered z end tail b) (sym s.1)
    (subst (λ (c : ℕ). Told names held peer j unread c answered m end tail b) n (subst (λ (c : ℕ). Told names held peer j unread here c m end tail b) h t)))
told_all names held peer i j unread count answered here had a m end (x ∷ xs) tail b at by s t =
    told_more names held peer i s.1 unread count answered a s.2 end x (xs ++ tail) s.0 b s.3 s.4 s.5
    (told_all names held peer s.1 j unread (count + 1) (answered + bytes_of x.answers) here had s.2 m end xs tail b (omega (arith, at)) (let e = sum_by-cons (λ (z : Served). bytes_of z.answers) x xs in omega (arith, by, e)) s.6 t)

told : (names : List (List ℕ)) (held : Option PageMap) (peer : List ℕ) (i unread : Option (List ℕ)) (a : At) (end : SessionEnd) (served : List Served) (b : At) → IsSession names held peer i unread a end served b → Told names held peer i unread 0 0 a end served b
told names held peer i unread a end served b s =
    subst (λ (l : List Served). Told names held peer i unread 0 0 a end l b) (sym s.parts)
    (told_all names held peer i s.left unread 0 0 (length s.front) (answered_by s.front) a s.mid end s.front s.tail b (omega arith) (omega arith) s.serves
    (told_end names held peer s.left unread (length s.front) (answered_by s.front) s.mid end s.tail b s.last))

-- ---- completeness

good_end : (end : SessionEnd) (f g h k : ℕ) → Causes end f g h k → (Rose f g → ⊥) → (Rose h k → ⊥) → end ≢ ends.NoMemory → IsGoodEnd end
good_end ends.Ended f g h k c source sink memory = tt
good_end ends.Closing f g h k c source sink memory = tt
good_end (ends.Truncated have) f g h k c source sink memory = tt
good_end (ends.Refused status) f g h k c source sink memory = tt
good_end ends.Spent f g h k c source sink memory = tt
good_end ends.ReadFault f g h k c source sink memory = source c.2
good_end (ends.WriteFault sent) f g h k c source sink memory = sink c.2
good_end ends.NoMemory f g h k c source sink memory = memory refl

good_course : (end : SessionEnd) (count answered : ℕ) (x : Served) (item : Item) → IsGoodEnd end → EndsWith end count answered x item → item.course ≡ Finished
good_course ends.Ended count answered x item good with = absurd with
good_course ends.Closing count answered x item good with = with.0
good_course (ends.Truncated have) count answered x item good with = absurd with
good_course (ends.Refused status) count answered x item good with = absurd with
good_course ends.Spent count answered x item good with = with.0
good_course ends.ReadFault count answered x item good with = absurd good
good_course (ends.WriteFault sent) count answered x item good with = absurd good
good_course ends.NoMemory count answered x item good with = absurd good

wrote_whole : (names : List (List ℕ)) (count answered : ℕ) (x : Served) (item : Item) → Replied names count answered x item → item.course ≡ Finished → x.wrote ≡ length item.reply
wrote_whole names count answered x item r is = subst (λ (c : Course). IsWritten c x.wrote (length item.reply)) is r.wrote

are_whole : (names : List (List ℕ)) (count answered : ℕ) (end : SessionEnd) (xs : List Served) (items : List Item) (finish : Finish) → AreReplied names count answered end xs items finish → IsGoodEnd end → AreWhole xs items
are_whole names count answered end [] [] finish r good = tt
are_whole names count answered end [] (item ∷ items) finish r good = absurd r
are_whole names count answered end (x ∷ xs) [] finish r good = absurd r
are_whole names count answered end (x ∷ xs) (item ∷ items) finish r good = ⊎_elim
    (λ (g : GoesOnBehind count answered x item × AreReplied names (count + 1) (answered + bytes_of x.answers) end xs items finish).
    (g.0.0, wrote_whole names count answered x item r.0 g.0.0, are_whole names (count + 1) (answered + bytes_of x.answers) end xs items finish g.1 good))
    (λ (w : EndsWith end count answered x item × (xs ≡ []) × (items ≡ []) × (finish ≡ Nothing)).
    let course = good_course end count answered x item good w.0 in
    (course, wrote_whole names count answered x item r.0 course, subst (λ (l : List Served). AreWhole l items) (sym w.1) (subst (λ (l : List Item). AreWhole [] l) (sym w.2) tt))) r.1

-- ---- the whole promise

from_start : (rest : Option (List ℕ)) → left_of [] rest ≡ rest
from_start None = refl
from_start (Some bytes) = refl

pub promised : (names : List (List ℕ)) (held : Option PageMap) (peer : List ℕ) (input unread : Option (List ℕ)) (a : At) (end : SessionEnd) (served : List Served) (b : At) (f g h k : ℕ)
    → IsSession names held peer (left_of [] input) unread a end served b → Causes end f g h k → Promised names held peer input unread a end served b f g h k
promised names held peer input unread a end served b f g h k s c =
    let t = told names held peer (left_of [] input) unread a end served b s in
    record {
      items = t.items;
      finish = t.finish;
      replies = record { replied = t.replied; reads = λ bytes is. t.reads bytes (from_start input ∙ is); writes = t.writes };
      backed = record { gains = t.gains; backed = t.backed; pages = t.pages; counts = t.counts };
      moments = t.moments;
      paid = t.paid;
      complete = λ source sink memory wants. let good = good_end end f g h k c source sink memory in (good, are_whole names 0 0 end served t.items t.finish t.replied good);
    }

pub promised_units : (names : List (List ℕ)) (held : Option PageMap) (peer : List ℕ) (input unread : Option (List ℕ)) (a : At) (end : SessionEnd) (served : List Served) (b : At) (f g h k : ℕ)
    → Promised names held peer input unread a end served b f g h k → (turns : List Turn) × GainsTurns a.passes turns b.passes
promised_units names held peer input unread a end served b f g h k p = (session_turns p.items p.finish, p.backed.gains)
