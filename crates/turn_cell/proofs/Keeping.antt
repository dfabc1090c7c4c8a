-- Each step of a cell keeps its rule.
use Rattle.std.proofs.Common.{◌≡◌, ◌≢◌, ℕ, ◌+◌, ◌-◌, ◌<◌, ◌≤◌, Bool, true, false, cond, ◌||◌, ◌==◌, eq-eqb, ne_eqb, nat_lt, List, [], ◌∷◌, ◌++◌, length, set, Option, Some, None, refl, sym, ap, ◌∙◌, subst, inl, inr, ⊎_elim, arith, length-append, append-nil}
use Rattle.std.proofs.Math.ListN.{length-set}
use mathlib.Core.Option.{some, some-injective}
use mathlib.Core.Logic.{dite}
use native.Mathlib.Decide.{ℕ_discrete}
use lib.ListN.{get_elem?}
use Rattle.std.proofs.lemmas.Bool.{cases_lt, eqb-true}
use Rattle.std.proofs.lemmas.Bool.Decides.{nat_tests}
use Rattle.std.proofs.lemmas.List.Elements.{filter-append}
use Rattle.crossbeam_queue.specs.Fifo.{Pushes, Pops, Forks, Merges, Learns}
use Rattle.crossbeam_queue.proofs.Lists.{at_set, at_longer, set_here}
use Rattle.turn_cell.specs.declared.view.Entry.{Entry}
use Rattle.turn_cell.specs.declared.view.View.{View}
use Rattle.turn_cell.specs.declared.view.Kept.{Kept}
use Rattle.turn_cell.specs.History.{after_of, state_at, Rising, IsTurn, IsHistory}
use Rattle.txt_core.specs.Members.{Has}
use Rattle.txt_core.specs.Shares.{WHOLE}
use Rattle.turn_cell.specs.Passes.{fresh, holding, turn_of, with_turn, merged, joined}
use Rattle.turn_cell.specs.Rule.{owned, Fits, InQueue, WithPass, IsInOnePlace, Stands, RuleHolds}
use Rattle.turn_cell.specs.Steps.{Opens, Takes, Puts, Finds, IsInOrder}
use Rattle.txt_core.proofs.Members.{in_filter, passes_filter}
use Rattle.turn_cell.proofs.Histories.{placed_in, rises, after_append, at_more, at_all, snoc, same_filter, filter_none, merges_filters, links, end_allowed, reaches_end, after_reaches}
use Rattle.turn_cell.proofs.Views.{only, at_below, snoc_at, units_set, units_snoc, units_two}
use Rattle.turn_cell.proofs.Stays.{put_view, owns_all, owns_history, in_set, out_at}

module _ {S C R : Type 0} (allowed : S → Type 0) (step : S → C → R → S → Type 0) where
  abbrev St : List (View S C R) → ℕ → S → S → Type 0
  St = Stands allowed step

  abbrev Ru : List (Kept S) → List (View S C R) → Type 0
  Ru = RuleHolds allowed step

  -- a queue with its first pass, which has some object
  pub begins : (s : S) → allowed s → Ru [] (holding (fresh WHOLE 0 s s) 0 s ∷ [])
  begins s ok =
      let first : View S C R = holding (fresh WHOLE 0 s s) 0 s in (
        0,
        s,
        s,
        record {
          history = [];
          owner = λ _. 0;
          counted = refl;
          opens = ok;
          legal = tt;
          ends = refl;
          whole = refl;
          placed = λ k lt. absurd (omega arith);
          fits = λ port v at. let o = only first port v at in subst (λ (y : View S C R). Fits [] s (λ _. 0) port y) o.1
              record { own = refl; below = λ k lt e. absurd (omega arith); seen = λ _. omega arith; low = λ _. refl; opens = λ _. refl };
        },
        inr record { holder = 0; by = first; items_are = refl; at = refl; shares = omega arith; has = refl; others = λ port v at ne. absurd (ne (only first port v at).0) },
      )

  -- the first push, with the object in its opening state
  pub opens : (n port : ℕ) (v : View S C R) (x : Kept S) (s : S) → v ≡ holding (fresh WHOLE 0 s s) 0 s → x.count ≡ 0 → allowed x.object.value → Pushes Ru n port v x (Opens v x)
  opens n port v x s is none ok items views room r at =
      let st = r.3 in
      let held : v.held ≡ Some (0, s) = ap (λ (y : View S C R). y.held) is in
      let units : v.units ≡ WHOLE = ap (λ (y : View S C R). y.units) is in
      let seen : v.seen ≡ 0 = ap (λ (y : View S C R). y.seen) is in
      let out = out_at allowed step items views r.0 r.1 port v 0 s at held r.4 in
      let mine = st.fits port v at in
      let empty : length st.history ≡ 0 = ⊎_elim
      (λ (lt : 0 < length st.history). let b = mine.below 0 lt (owns_all allowed step views r.0 r.1 r.2 st port v at units 0 (omega (arith, lt, st.counted))) in absurd (omega (arith, b.0, seen)))
      (λ (le : length st.history ≤ 0). omega arith) (cases_lt 0 (length st.history)) in
      let w : View S C R = record { units = WHOLE; seen = 0; opening = x.object.value; low = x.object.value; own = []; held = None } in
      let alone : (j : ℕ) (u : View S C R) → j ≢ port → get_elem? views j ≡ some u → u.units ≡ 0 =
      λ j u ne a. let two = units_two views port j v u at a ne in let all = st.whole in omega (arith, two, all, units) in (
        w,
        (
          0,
          x.object.value,
          x.object.value,
          record {
            history = [];
            owner = λ _. port;
            counted = refl;
            opens = ok;
            legal = tt;
            ends = refl;
            whole = let u = units_set views port v w at in let all = st.whole in omega (arith, u, all, units);
            placed = λ k lt. absurd (omega arith);
            fits = λ j u e. ⊎_elim
                (λ (h : (j ≡ port) × (w ≡ u)). subst (λ (y : View S C R). Fits [] x.object.value (λ _. port) j y) h.1
                record { own = refl; below = λ k lt f. absurd (omega arith); seen = λ _. omega arith; low = λ _. refl; opens = λ _. refl })
                (λ (h : (j ≢ port) × (get_elem? views j ≡ some u)). let zero' = alone j u h.0 h.1 in let b = (st.fits j u h.1).own in
                record {
                  own = b ∙ filter_none allowed step (λ f. st.owner f.place == j) 0 r.2 st.history st.legal (λ f l g. absurd (omega (arith, g, empty)));
                  below = λ k lt f. absurd (omega arith);
                  seen = λ some'. absurd (omega (arith, some', zero'));
                  low = λ some'. absurd (omega (arith, some', zero'));
                  opens = λ some'. absurd (omega (arith, some', zero'));
                }) (at_set views port j w u e);
          },
          inl record {
            item = x;
            items_are = ap (λ (l : List (Kept S)). l ++ x ∷ []) out.0;
            counts = none;
            object = refl;
            none = λ j u e. ⊎_elim (λ (h : (j ≡ port) × (w ≡ u)). ap (λ (y : View S C R). y.held) (sym h.1)) (λ (h : (j ≢ port) × (get_elem? views j ≡ some u)). out.3 j u h.1 h.0) (at_set views port j w u e);
          },
        ),
        refl,
      )

  -- while a pass has the object, the queue is empty
  pub learns_empty : (port : ℕ) (v : View S C R) (count : ℕ) (now : S) → v.held ≡ Some (count, now) → Learns Ru port v (λ items. items ≡ [])
  learns_empty port v count now has items views r at = (out_at allowed step items views r.0 r.1 port v count now at has r.4).0

  -- a pass with every unit that has the object not finds it in the queue
  pub learns_there : (port : ℕ) (v : View S C R) → v.held ≡ None → Learns Ru port v (λ items. v.units ≡ WHOLE → length items ≡ 1)
  learns_there port v off items views r at units = ⊎_elim
      (λ (q : InQueue items views r.0 r.1). ap length q.items_are)
      (λ (q : WithPass items views r.0 r.1). dite (ℕ_discrete q.holder port)
      (λ e. let same : q.by ≡ v = some-injective q.by v (sym q.at ∙ ap (get_elem? views) e ∙ at) in let h = ap (λ (y : View S C R). y.held) same in let has = q.has in cc)
      (λ ne. let two = units_two views port q.holder v q.by at q.at ne in let all = r.3.whole in let s = q.shares in absurd (omega (arith, two, all, units, s)))) r.4

  -- a pass learns that its own entries stand in order
  pub learns_order : (port : ℕ) (v : View S C R) → Learns Ru port v (λ items. IsInOrder v)
  learns_order port v items views r at =
      let st = r.3 in
      let own = (st.fits port v at).own in
      let p : Entry S C R → Bool = λ g. st.owner g.place == port in
      let mine : (g : Entry S C R) → Has v.own g → Has (owned st.owner port st.history) g = λ g k. subst (λ (l : List (Entry S C R)). Has l g) own k in
      let there : (g : Entry S C R) → Has v.own g → Has st.history g = λ g k. in_filter p st.history g (mine g k) in
      record {
        rising = subst Rising (sym own) (rises allowed step p 0 r.2 st.history st.legal);
        below = λ g k. let q = (placed_in allowed step 0 r.2 st.history st.legal g (there g k)).1 in
            ((st.fits port v at).below g.place (omega (arith, q)) (eqb-true (st.owner g.place) port (passes_filter p st.history g (mine g k)))).0;
        linked = λ e f i j place. links allowed step 0 r.2 st.history st.legal e f (there e i) (there f j) place;
      }

  -- a unit goes to a new pass
  pub forks : (port : ℕ) (v : View S C R) → 2 ≤ v.units → v.held ≡ None → Forks Ru port v (record v { units = v.units - 1 }) (fresh 1 v.seen v.opening v.low)
  forks port v two off items views r at =
      let st = r.3 in
      let left : View S C R = record v { units = v.units - 1 } in
      let right : View S C R = fresh 1 v.seen v.opening v.low in
      let vs : List (View S C R) = set views port left in
      let mine = st.fits port v at in
      let size = length-set views port left in
      let some' : 0 < v.units = omega arith in
      let fit : Fits st.history r.2 st.owner port left = record {
        own = mine.own;
        below = λ k lt e. ((mine.below k lt e).0, omega arith);
        seen = λ _. mine.seen some';
        low = λ _. mine.low some';
        opens = λ _. mine.opens some';
      } in
      let old : (j : ℕ) (u : View S C R) → get_elem? vs j ≡ some u → Fits st.history r.2 st.owner j u = λ j u e. ⊎_elim
      (λ (h : (j ≡ port) × (left ≡ u)). subst (λ (y : ℕ × View S C R). Fits st.history r.2 st.owner y.0 y.1) (λ i. (sym h.0 i, h.1 i)) fit)
      (λ (h : (j ≢ port) × (get_elem? views j ≡ some u)). st.fits j u h.1) (at_set views port j left u e) in
      let nobody : (j : ℕ) → j ≡ length vs → (k : ℕ) → k < length st.history → st.owner k ≢ j = λ j e k lt f. let p = st.placed k (omega (arith, lt, st.counted)) in omega (arith, p, size, e, f) in
      let moved : IsInOnePlace items vs r.0 r.1 = in_set allowed step items views r.0 r.1 port v left at off off r.4 in (
        r.0,
        r.1,
        r.2,
        record {
          history = st.history;
          owner = st.owner;
          counted = st.counted;
          opens = st.opens;
          legal = st.legal;
          ends = st.ends;
          whole = let u = units_set views port v left at in let s = units_snoc vs right in let all = st.whole in omega (arith, u, s, all);
          placed = λ k lt. let p = st.placed k lt in let n = length-append vs (right ∷ []) in omega (arith, p, n, size);
          fits = λ j u e. ⊎_elim (λ (h : get_elem? vs j ≡ some u). old j u h)
              (λ (h : (j ≡ length vs) × (right ≡ u)). subst (λ (y : View S C R). Fits st.history r.2 st.owner j y) h.1 record {
                own = sym (filter_none allowed step (λ f. st.owner f.place == j) 0 r.2 st.history st.legal (λ f l g. ne_eqb (st.owner f.place) j (nobody j h.0 f.place (omega (arith, g)))));
                below = λ k lt f. absurd (nobody j h.0 k lt f);
                seen = λ _. mine.seen some';
                low = λ _. mine.low some';
                opens = λ _. mine.opens some';
              }) (snoc_at vs right u j e);
        },
        ⊎_elim
            (λ (q : InQueue items vs r.0 r.1). inl record {
              item = q.item;
              items_are = q.items_are;
              counts = q.counts;
              object = q.object;
              none = λ j u e. ⊎_elim (λ (h : get_elem? vs j ≡ some u). q.none j u h) (λ (h : (j ≡ length vs) × (right ≡ u)). ap (λ (y : View S C R). y.held) (sym h.1)) (snoc_at vs right u j e);
            })
            (λ (q : WithPass items vs r.0 r.1). inr record {
              holder = q.holder;
              by = q.by;
              items_are = q.items_are;
              shares = q.shares;
              has = q.has;
              at = at_longer vs (right ∷ []) q.holder q.by q.at;
              others = λ j u e ne. ⊎_elim (λ (h : get_elem? vs j ≡ some u). q.others j u h ne) (λ (h : (j ≡ length vs) × (right ≡ u)). ap (λ (y : View S C R). y.held) (sym h.1)) (snoc_at vs right u j e);
            }) moved,
      )

  -- what a join leaves of the two passes' knowledge
  joined_fits : (history : List (Entry S C R)) (opening : S) (owner : ℕ → ℕ) (port other : ℕ) (v w : View S C R) → IsHistory allowed step 0 opening history → other ≢ port → 0 < v.units → 0 < w.units
      → Fits history opening owner port v → Fits history opening owner other w → Fits history opening (λ k. cond (owner k == other) port (owner k)) port (joined v w)
  joined_fits history opening owner port other v w legal two some' more mine theirs =
      let to : ℕ → ℕ = λ k. cond (owner k == other) port (owner k) in
      let hit : (k : ℕ) → owner k ≡ other → to k ≡ port = λ k e. ap (λ (b : Bool). cond b port (owner k)) (eq-eqb (owner k) other e) in
      let miss : (k : ℕ) → owner k ≢ other → to k ≡ owner k = λ k e. ap (λ (b : Bool). cond b port (owner k)) (ne_eqb (owner k) other e) in
      let tests : (k : ℕ) → ((to k == port) ≡ (owner k == port) || (owner k == other)) × ((owner k == port) ≡ true → (owner k == other) ≡ false) = λ k. dite (ℕ_discrete (owner k) other)
      (λ e. let a = eq-eqb (to k) port (hit k e) in let b = eq-eqb (owner k) other e in let c = ne_eqb (owner k) port (λ f. two (sym e ∙ f)) in
      (a ∙ ap (λ (y : Bool × Bool). y.0 || y.1) (λ i. (sym c i, sym b i)), λ h. let q : Path Bool false true = sym c ∙ h in cc))
      (λ ne. let b = ne_eqb (owner k) other ne in dite (ℕ_discrete (owner k) port)
      (λ e. let a = eq-eqb (to k) port (miss k ne ∙ e) in let c = eq-eqb (owner k) port e in (a ∙ ap (λ (y : Bool × Bool). y.0 || y.1) (λ i. (sym c i, sym b i)), λ h. b))
      (λ nf. let a = ne_eqb (to k) port (λ f. nf (sym (miss k ne) ∙ f)) in let c = ne_eqb (owner k) port nf in (a ∙ ap (λ (y : Bool × Bool). y.0 || y.1) (λ i. (sym c i, sym b i)), λ h. b))) in
      let seen : ℕ = cond (nat_lt v.seen w.seen) w.seen v.seen in
      let far : (v.seen ≤ seen) × (w.seen ≤ seen) = (grind (arith, nat_tests), grind (arith, nat_tests)) in
      record {
        own = ap (λ (y : List (Entry S C R) × List (Entry S C R)). merged y.0 y.1) (λ i. (mine.own i, theirs.own i))
            ∙ merges_filters allowed step (λ e. owner e.place == port) (λ e. owner e.place == other) (λ e. to e.place == port) 0 opening history legal (λ e l g. tests e.place);
        below = λ k lt e. dite (ℕ_discrete (owner k) other)
            (λ f. let b = theirs.below k lt f in (omega (arith, far.1, b.0), omega arith))
            (λ nf. let b = mine.below k lt (sym (miss k nf) ∙ e) in (omega (arith, far.0, b.0), omega arith));
        seen = λ _. let a = mine.seen some' in let b = theirs.seen more in
            let P : Bool → Type 0 = λ t. cond t w.seen v.seen ≤ length history in elim (nat_lt v.seen w.seen) as P [ true ↦ b | false ↦ a ];
        low = λ _. let a = mine.low some' in let b = theirs.low more in
            let P : Bool → Type 0 = λ t. cond t w.low v.low ≡ state_at opening history (cond t w.seen v.seen) in elim (nat_lt v.seen w.seen) as P [ true ↦ b | false ↦ a ];
        opens = λ _. mine.opens some';
      }

  -- two passes become one
  pub merges : (port : ℕ) (v : View S C R) (other : ℕ) (w : View S C R) (s : S) → 0 < v.units → v.held ≡ None → 0 < w.units → w.held ≡ None → Merges Ru port v other w (joined v w) (fresh 0 0 s s)
  merges port v other w s some' off more off' items views r at two at' =
      let st = r.3 in
      let both : View S C R = joined v w in
      let spent : View S C R = fresh 0 0 s s in
      let vs : List (View S C R) = set views port both in
      let was : get_elem? views other ≡ some w = ⊎_elim (λ (h : (other ≡ port) × (both ≡ w)). absurd (two h.0)) (λ (h : (other ≢ port) × (get_elem? views other ≡ some w)). h.1) (at_set views port other both w at') in
      let to : ℕ → ℕ = λ k. cond (st.owner k == other) port (st.owner k) in
      let hit : (k : ℕ) → st.owner k ≡ other → to k ≡ port = λ k e. ap (λ (b : Bool). cond b port (st.owner k)) (eq-eqb (st.owner k) other e) in
      let miss : (k : ℕ) → st.owner k ≢ other → to k ≡ st.owner k = λ k e. ap (λ (b : Bool). cond b port (st.owner k)) (ne_eqb (st.owner k) other e) in
      let fit = joined_fits st.history r.2 st.owner port other v w st.legal two some' more (st.fits port v at) (st.fits other w was) in
      let nobody : (k : ℕ) → to k ≢ other = λ k e. dite (ℕ_discrete (st.owner k) other) (λ f. two (sym e ∙ hit k f)) (λ nf. nf (sym (miss k nf) ∙ e)) in
      let here = at_below views port v at in
      let size = length-set views port both in
      let size' = length-set vs other spent in
      let others : (j : ℕ) (u : View S C R) → j ≢ port → j ≢ other → get_elem? views j ≡ some u → Fits st.history r.2 to j u = λ j u ne ne' a.
      let f = st.fits j u a in record {
        own = f.own ∙ same_filter allowed step (λ e. st.owner e.place == j) (λ e. to e.place == j) 0 r.2 st.history st.legal (λ e l g. dite (ℕ_discrete (st.owner e.place) other)
            (λ x. ne_eqb (st.owner e.place) j (λ y. ne' (sym y ∙ x)) ∙ sym (ne_eqb (to e.place) j (λ y. ne (sym y ∙ hit e.place x))))
            (λ nx. ap (λ (k : ℕ). k == j) (sym (miss e.place nx))));
        below = λ k lt e. dite (ℕ_discrete (st.owner k) other) (λ x. absurd (ne (sym e ∙ hit k x))) (λ nx. f.below k lt (sym (miss k nx) ∙ e));
        seen = f.seen;
        low = f.low;
        opens = f.opens;
      } in (
        r.0,
        r.1,
        r.2,
        record {
          history = st.history;
          owner = to;
          counted = st.counted;
          opens = st.opens;
          legal = st.legal;
          ends = st.ends;
          whole = let a = units_set views port v both at in let b = units_set vs other w spent at' in let all = st.whole in omega (arith, a, b, all);
          placed = λ k lt. dite (ℕ_discrete (st.owner k) other)
              (λ x. let h = hit k x in omega (arith, h, here, size, size'))
              (λ nx. let h = miss k nx in let p = st.placed k lt in omega (arith, h, p, size, size'));
          fits = λ j u e. ⊎_elim
              (λ (h : (j ≡ other) × (spent ≡ u)). subst (λ (y : ℕ × View S C R). Fits st.history r.2 to y.0 y.1) (λ i. (sym h.0 i, h.1 i)) record {
                own = sym (filter_none allowed step (λ f. to f.place == other) 0 r.2 st.history st.legal (λ f l g. ne_eqb (to f.place) other (nobody f.place)));
                below = λ k lt f. absurd (nobody k f);
                seen = λ none. absurd (omega (arith, none));
                low = λ none. absurd (omega (arith, none));
                opens = λ none. absurd (omega (arith, none));
              })
              (λ (h : (j ≢ other) × (get_elem? vs j ≡ some u)). ⊎_elim
              (λ (g : (j ≡ port) × (both ≡ u)). subst (λ (y : ℕ × View S C R). Fits st.history r.2 to y.0 y.1) (λ i. (sym g.0 i, g.1 i)) fit)
              (λ (g : (j ≢ port) × (get_elem? views j ≡ some u)). others j u g.0 h.0 g.1) (at_set views port j both u h.1)) (at_set vs other j spent u e);
        },
        in_set allowed step items vs r.0 r.1 other w spent at' off' refl (in_set allowed step items views r.0 r.1 port v both at off refl r.4),
      )

  -- the pass that has the object puts it back with one turn more
  puts_stands : (views : List (View S C R)) (count : ℕ) (now opening : S) (st : St views count now opening) (port : ℕ) (v : View S C R) (e : Entry S C R) → get_elem? views port ≡ some v
      → 0 < v.units → IsTurn allowed step count now e → St (set views port (with_turn v e)) (count + 1) e.after opening
  puts_stands views count now opening st port v e at some' turn =
      let h = st.history in
      let mine = st.fits port v at in
      let w : View S C R = with_turn v e in
      let counted = st.counted in
      let place : e.place ≡ count = turn.0 in
      let to : ℕ → ℕ = λ k. cond (k == count) port (st.owner k) in
      let hit : (k : ℕ) → k ≡ count → to k ≡ port = λ k f. ap (λ (b : Bool). cond b port (st.owner k)) (eq-eqb k count f) in
      let miss : (k : ℕ) → k ≢ count → to k ≡ st.owner k = λ k f. ap (λ (b : Bool). cond b port (st.owner k)) (ne_eqb k count f) in
      let long : length (h ++ e ∷ []) ≡ count + 1 = length-append h (e ∷ []) ∙ (omega (arith, counted)) in
      let size = length-set views port w in
      let here = at_below views port v at in
      let old : (j : ℕ) → owned st.owner j h ≡ owned to j h = λ j. same_filter allowed step (λ f. st.owner f.place == j) (λ f. to f.place == j) 0 opening h st.legal
      (λ f l g. ap (λ (k : ℕ). k == j) (sym (miss f.place (λ x. omega (arith, x, g, counted))))) in
      let more : (j : ℕ) → owned to j (h ++ e ∷ []) ≡ owned st.owner j h ++ cond (to e.place == j) (e ∷ []) [] = λ j.
      filter-append (λ f. to f.place == j) h (e ∷ []) ∙ ap (λ (l : List (Entry S C R)). l ++ cond (to e.place == j) (e ∷ []) []) (sym (old j)) in
      let last : after_of opening (h ++ e ∷ []) ≡ e.after = after_append opening h (e ∷ []) in
      let earlier : (k : ℕ) → k < length (h ++ e ∷ []) → k ≢ count → k < length h = λ k lt ne. omega (arith, lt, ne, long, counted) in
      let fit : Fits (h ++ e ∷ []) opening to port w = record {
        own = ap (λ (l : List (Entry S C R)). l ++ e ∷ []) mine.own ∙ sym (more port ∙ ap (λ (b : Bool). owned st.owner port h ++ cond b (e ∷ []) []) (eq-eqb (to e.place) port (hit e.place place)));
        below = λ k lt f. (omega (arith, lt, long, place), some');
        seen = λ _. omega (arith, long, place);
        low = λ _. sym last ∙ sym (at_all opening (h ++ e ∷ [])) ∙ ap (state_at opening (h ++ e ∷ [])) (let g : length (h ++ e ∷ []) ≡ e.place + 1 = omega (arith, long, place) in g);
        opens = λ _. mine.opens some';
      } in
      let others : (j : ℕ) (u : View S C R) → j ≢ port → get_elem? views j ≡ some u → Fits (h ++ e ∷ []) opening to j u = λ j u ne a.
      let f = st.fits j u a in record {
        own = f.own ∙ sym (more j ∙ ap (λ (b : Bool). owned st.owner j h ++ cond b (e ∷ []) []) (ne_eqb (to e.place) j (λ x. ne (sym x ∙ hit e.place place))) ∙ append-nil (owned st.owner j h));
        below = λ k lt x. dite (ℕ_discrete k count) (λ y. absurd (ne (sym x ∙ hit k y))) (λ ny. f.below k (earlier k lt ny) (sym (miss k ny) ∙ x));
        seen = λ y. let q = f.seen y in omega (arith, q, long, counted);
        low = λ y. f.low y ∙ sym (at_more opening h (e ∷ []) u.seen (f.seen y));
        opens = f.opens;
      } in
      record {
        history = h ++ e ∷ [];
        owner = to;
        counted = long;
        opens = st.opens;
        ends = last;
        legal = snoc allowed step 0 opening h e st.legal (subst (λ (y : ℕ × S). IsTurn allowed step y.0 y.1 e) (λ i. ((let g : count ≡ 0 + length h = omega (arith, counted) in g) i, sym st.ends i)) turn);
        whole = let u = units_set views port v w at in let all = st.whole in omega (arith, u, all);
        placed = λ k lt. dite (ℕ_discrete k count)
            (λ y. let q = hit k y in omega (arith, q, here, size))
            (λ ny. let q = miss k ny in let p = st.placed k (omega (arith, lt, ny)) in omega (arith, q, p, size));
        fits = λ j u x. ⊎_elim
            (λ (y : (j ≡ port) × (w ≡ u)). subst (λ (z : ℕ × View S C R). Fits (h ++ e ∷ []) opening to z.0 z.1) (λ i. (sym y.0 i, y.1 i)) fit)
            (λ (y : (j ≢ port) × (get_elem? views j ≡ some u)). others j u y.0 y.1) (at_set views port j w u x);
      }

  pub puts : (n port : ℕ) (v : View S C R) (x : Kept S) (count : ℕ) (before : S) (call : C) (reply : R) (said : Option (C × R)) → 0 < v.units → v.held ≡ Some (count, before) → said ≡ Some (call, reply)
      → x.count ≡ count + 1 → step before call reply x.object.value → allowed x.object.value → Pushes Ru n port v x (Puts said v x)
  puts n port v x count before call reply said some' held is more legal ok items views room r at =
      let out = out_at allowed step items views r.0 r.1 port v count before at held r.4 in
      let e : Entry S C R = turn_of count before call reply x.object.value in
      let w : View S C R = with_turn v e in
      let turn : IsTurn allowed step r.0 r.1 e = (out.1, out.2, legal, ok) in
      let st = puts_stands views r.0 r.1 r.2 r.3 port v e at some' turn in (
        w,
        (
          r.0 + 1,
          x.object.value,
          r.2,
          st,
          inl record {
            item = x;
            items_are = ap (λ (y : List (Kept S)). y ++ x ∷ []) out.0;
            counts = more ∙ ap (λ (k : ℕ). k + 1) out.1;
            object = refl;
            none = λ j u f. ⊎_elim (λ (h : (j ≡ port) × (w ≡ u)). ap (λ (y : View S C R). y.held) (sym h.1)) (λ (h : (j ≢ port) × (get_elem? views j ≡ some u)). out.3 j u h.1 h.0) (at_set views port j w u f);
          },
        ),
        λ count' before' call' reply' held' is'.
            let same : Path (Option (ℕ × S)) (Some (count, before)) (Some (count', before')) = sym held ∙ held' in
            let pair : Path (ℕ × S) (count, before) (count', before') = cc in
            let same' : Path (Option (C × R)) (Some (call, reply)) (Some (call', reply')) = sym is ∙ is' in
            let one : Path (C × R) (call, reply) (call', reply') = cc in
            λ i. with_turn v (turn_of (pair i).0 (pair i).1 (one i).0 (one i).1 x.object.value),
      )

module _ {S C R : Type 0} (allowed : S → Type 0) (reaches : S → S → Type 0) (step : S → C → R → S → Type 0)
    (self : (s : S) → reaches s s) (later : (s t u : S) → reaches s t → reaches t u → reaches s u)
    (steps : (s : S) (c : C) (r : R) (t : S) → allowed s → step s c r t → reaches s t) where
  finds : (views : List (View S C R)) (count : ℕ) (now opening : S) (st : Stands allowed step views count now opening) (port : ℕ) (v : View S C R) → get_elem? views port ≡ some v → 0 < v.units
      → Finds allowed reaches step v count now
  finds views count now opening st port v at some' =
      let mine = st.fits port v at in
      let p : Entry S C R → Bool = λ f. st.owner f.place == port in
      record {
        place = let s = mine.seen some' in let c = st.counted in omega (arith, s, c);
        state = subst allowed st.ends (end_allowed allowed step 0 opening st.history st.legal st.opens);
        low = subst (λ (y : S × S). reaches y.0 y.1) (λ i. (sym (mine.low some') i, st.ends i)) (reaches_end allowed reaches step self later steps 0 opening st.history st.legal st.opens v.seen);
        own = λ e i. subst (reaches e.after) st.ends
            (after_reaches allowed reaches step self later steps 0 opening st.history st.legal st.opens e (in_filter p st.history e (subst (λ (l : List (Entry S C R)). Has l e) mine.own i)));
        whole = λ all. let same : v.own ≡ st.history = owns_history allowed step views count now opening st port v at all in let o : v.opening ≡ opening = mine.opens some' in (
          subst (λ (y : S × List (Entry S C R)). IsHistory allowed step 0 y.0 y.1) (λ i. (sym o i, sym same i)) st.legal,
          (λ i. after_of (o i) (same i)) ∙ st.ends,
          ap length same ∙ st.counted,
        );
      }

  -- a pass takes the object
  pub takes : (port : ℕ) (v : View S C R) → 0 < v.units → v.held ≡ None → Pops (RuleHolds allowed step) port v (Takes allowed reaches step v)
  takes port v some' off x items views r at = ⊎_elim
      (λ (q : InQueue (x ∷ items) views r.0 r.1).
      let is : Path (List (Kept S)) (x ∷ items) (q.item ∷ []) = q.items_are in
      let same : x ≡ q.item = cc in
      let rest : items ≡ [] = cc in
      let count : x.count ≡ r.0 = ap (λ (y : Kept S). y.count) same ∙ q.counts in
      let object : x.object.value ≡ r.1 = ap (λ (y : Kept S). y.object.value) same ∙ q.object in
      let w : View S C R = holding v x.count x.object.value in
      let mine = r.3.fits port v at in
      let fit : Fits r.3.history r.2 r.3.owner port w = record { own = mine.own; below = mine.below; seen = mine.seen; low = mine.low; opens = mine.opens } in (
        w,
        (
          r.0,
          r.1,
          r.2,
          put_view allowed step views r.0 r.1 r.2 r.3 port v w at refl fit,
          inr record {
            holder = port;
            by = w;
            items_are = rest;
            at = set_here views port w (at_below views port v at);
            shares = some';
            has = λ i. Some (count i, object i);
            others = λ j u e ne. ⊎_elim (λ (h : (j ≡ port) × (w ≡ u)). absurd (ne h.0)) (λ (h : (j ≢ port) × (get_elem? views j ≡ some u)). q.none j u h.1) (at_set views port j w u e);
          },
        ),
        (refl, subst (λ (y : ℕ × S). Finds allowed reaches step v y.0 y.1) (λ i. (sym count i, sym object i)) (finds views r.0 r.1 r.2 r.3 port v at some')),
      ))
      (λ (q : WithPass (x ∷ items) views r.0 r.1). let is = q.items_are in cc) r.4
