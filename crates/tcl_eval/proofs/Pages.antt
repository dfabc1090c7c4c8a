-- What pages come to.
use Rattle.std.proofs.Common.{◌≡◌, ◌≢◌, ◌≤◌, ◌⊎◌, inl, inr, ℕ, ◌+◌, List, [], ◌∷◌, ◌++◌, drop, length, min, Bool, true, false, cond, Some, None, slice_get, refl, sym, ap, ◌∙◌, arith}
use Rattle.std.specs.Prelude.{◌==◌, ◌||◌}
use Rattle.std.proofs.lemmas.Bool.{eq-eqb, ne_eqb}
use Rattle.txt_core.specs.Names.{Names}
use Rattle.adp_parse.specs.declared.piece.Piece.{Piece}
use Rattle.adp_parse.specs.declared.piece.Pieces.{Pieces}
use Rattle.tcl_frame.specs.Stack.{Stack}
use Rattle.tcl_frame.specs.Frames.{pushed as pushed_frame}
use Rattle.tcl_eval.specs.State.{State, LeafTable, Given, Out, Rest, Next}
use Rattle.tcl_eval.specs.Eval.{Inner, ended, give, nested, with_host, with_frames}
use Rattle.tcl_eval.specs.Pages.{told, page_end, piece_end, run_piece, run_pieces, run_page}
use Rattle.tcl_eval.specs.Stack.{stack_next}
use Rattle.tcl_eval.specs.declared.branch.Branch.TheVariants as branch
use Rattle.tcl_eval.specs.declared.stack.Ended.{Ended}
use Rattle.tcl_eval.specs.declared.stack.Frame.{Frame}
use Rattle.tcl_eval.specs.declared.stack.Frame.TheVariants.{Branch as Branching}
use Rattle.tcl_eval.specs.Engine.{Enters}
use Rattle.tcl_eval.specs.declared.stack.Acted.{Acted}
use Rattle.tcl_eval.specs.declared.stack.Acted.TheVariants as acted
use Rattle.tcl_eval.proofs.Stacks.{pushed}
use Rattle.tcl_eval.proofs.Branches.{some_left, none_left, dropped}

-- behind a piece one piece less is left
pub one_less : {A : Type 0} → (xs : List A) (at next : ℕ) (x : A) → Some x ≡ slice_get xs at → next ≡ min (at + 1) (length xs) → length (drop at xs) ≡ length (drop next xs) + 1
one_less {A} xs at next x found past =
    let one : length (drop at xs) ≡ length (x ∷ drop (at + 1) xs) = ap length (some_left xs at x found) in
    let other : length (drop next xs) ≡ length (drop (at + 1) xs) = ap length (dropped xs at 1 next past) in
    omega (arith, one, other)

module _ {H : Type 0} (ns : Names) (t : LeafTable H) where
  -- a page begins
  pub page_step : (fs fs1 : List Frame) (list : List Piece) (page : Pieces) (levels : ℕ) (value : Ended) (frames : Stack) (s : State H) (b : ℕ) (g : Given) → fs1 ≡ fs ++ Branching (branch.Page list 0 levels) ∷ [] → list ≡ page.list → value ≡ ended 0 [] → frames ≡ pushed_frame s.frames → give value (stack_next ns t fs1) (with_frames s frames) b g ≡ run_page t (nested ns t levels) page (stack_next ns t fs) s b g
  page_step fs fs1 list page levels value frames s b g push whole is same =
      let inner = nested ns t levels in
      let k = stack_next ns t fs in
      ap (λ (v : Ended). give v (stack_next ns t fs1) (with_frames s frames) b g) is
      ∙ ap (λ (x : Next H). x 0 [] (with_frames s frames) b g) (pushed ns t fs fs1 (Branching (branch.Page list 0 levels)) push)
      ∙ ap (λ (l : List Piece). run_pieces t inner l k (with_frames s frames) b g) whole
      ∙ ap (λ (f : Stack). run_pieces t inner page.list k (with_frames s f) b g) same

  -- no piece is left
  pub page_past : (inner : Inner H) (all : List Piece) (at : ℕ) (k : Next H) (s : State H) (b : ℕ) (g : Given) (x : Out H) → None ≡ slice_get all at → x ≡ told t 0 (page_end 0 k) s b g → x ≡ run_pieces t inner (drop at all) k s b g
  page_past inner all at k s b g x none e = e ∙ sym (ap (λ (ps : List Piece). run_pieces t inner ps k s b g) (none_left all at none))

  -- a piece begins
  pub piece_step : (fs fs1 : List Frame) (all : List Piece) (piece copied : Piece) (at next levels : ℕ) (s : State H) (b : ℕ) (g : Given) (x : Out H) → fs1 ≡ fs ++ Branching (branch.Page all next levels) ∷ [] → Some piece ≡ slice_get all at → next ≡ min (at + 1) (length all) → copied ≡ piece → x ≡ run_piece t (nested ns t levels) copied (stack_next ns t fs1) s b g → x ≡ run_pieces t (nested ns t levels) (drop at all) (stack_next ns t fs) s b g
  piece_step fs fs1 all piece copied at next levels s b g x push found past same e =
      let inner = nested ns t levels in
      let k = stack_next ns t fs in
      e
      ∙ ap (λ (y : Next H). run_piece t inner copied y s b g) (pushed ns t fs fs1 (Branching (branch.Page all next levels)) push)
      ∙ ap (λ (ps : List Piece). run_piece t inner copied (piece_end t (run_pieces t inner ps k) k) s b g) (dropped all at 1 next past)
      ∙ ap (λ (p : Piece). run_piece t inner p (piece_end t (run_pieces t inner (drop (at + 1) all) k) k) s b g) same
      ∙ sym (ap (λ (ps : List Piece). run_pieces t inner ps k s b g) (some_left all at piece found))

module _ {H : Type 0} (t : LeafTable H) where
  -- behind a good end
  pub good_piece : (go : Rest H) (k : Next H) (code : ℕ) (result : List ℕ) (s : State H) (b : ℕ) (g : Given) (x : Out H) → code ≡ 0 → x ≡ go s b g → x ≡ piece_end t go k code result s b g
  good_piece go k code result s b g x z e = e ∙ sym (ap (λ (n : ℕ). piece_end t go k n result s b g) z)

  -- the host is told of an end, and the page ends well
  pub piece_returns : (go : Rest H) (k : Next H) (code : ℕ) (result : List ℕ) (h : H) (s : State H) (b : ℕ) (g : Given) (x : Out H) → code ≢ 0 → h ≡ t.leaves code s.host → ((code == 2) || (code == 5)) ≡ true → x ≡ page_end 0 k (with_host s h) b g → x ≡ piece_end t go k code result s b g
  piece_returns go k code result h s b g x ne is one e =
      let other : Rest H = cond ((code == 6) || (code == 7)) (page_end code k) go in
      e ∙ ap (λ (y : H). page_end 0 k (with_host s y) b g) is
      ∙ sym (ap (λ (c : Bool). (cond c (page_end 0 k) other) (with_host s (t.leaves code s.host)) b g) one)
      ∙ sym (ap (λ (c : Bool). (cond c go (told t code (cond ((code == 2) || (code == 5)) (page_end 0 k) other))) s b g) (ne_eqb code 0 ne))

  -- the host is told of an end, and the page ends with it
  pub piece_breaks : (go : Rest H) (k : Next H) (code : ℕ) (result : List ℕ) (h : H) (s : State H) (b : ℕ) (g : Given) (x : Out H) → code ≢ 0 → h ≡ t.leaves code s.host → ((code == 2) || (code == 5)) ≡ false → ((code == 6) || (code == 7)) ≡ true → x ≡ page_end code k (with_host s h) b g → x ≡ piece_end t go k code result s b g
  piece_breaks go k code result h s b g x ne is neither_one other_one e =
      let other : Rest H = cond ((code == 6) || (code == 7)) (page_end code k) go in
      e ∙ ap (λ (y : H). page_end code k (with_host s y) b g) is
      ∙ sym (ap (λ (c : Bool). (cond c (page_end code k) go) (with_host s (t.leaves code s.host)) b g) other_one)
      ∙ sym (ap (λ (c : Bool). (cond c (page_end 0 k) other) (with_host s (t.leaves code s.host)) b g) neither_one)
      ∙ sym (ap (λ (c : Bool). (cond c go (told t code (cond ((code == 2) || (code == 5)) (page_end 0 k) other))) s b g) (ne_eqb code 0 ne))

  -- the host is told of an end, and the next piece follows
  pub piece_goes_on : (go : Rest H) (k : Next H) (code : ℕ) (result : List ℕ) (h : H) (s : State H) (b : ℕ) (g : Given) (x : Out H) → code ≢ 0 → h ≡ t.leaves code s.host → ((code == 2) || (code == 5)) ≡ false → ((code == 6) || (code == 7)) ≡ false → x ≡ go (with_host s h) b g → x ≡ piece_end t go k code result s b g
  piece_goes_on go k code result h s b g x ne is neither_one nor_other e =
      let other : Rest H = cond ((code == 6) || (code == 7)) (page_end code k) go in
      e ∙ ap (λ (y : H). go (with_host s y) b g) is
      ∙ sym (ap (λ (c : Bool). (cond c (page_end code k) go) (with_host s (t.leaves code s.host)) b g) nor_other)
      ∙ sym (ap (λ (c : Bool). (cond c (page_end 0 k) other) (with_host s (t.leaves code s.host)) b g) neither_one)
      ∙ sym (ap (λ (c : Bool). (cond c go (told t code (cond ((code == 2) || (code == 5)) (page_end 0 k) other))) s b g) (ne_eqb code 0 ne))

-- a code is one of two, or neither
pub one_of : (code a b : ℕ) → (code ≡ a) ⊎ (code ≢ a) × (code ≡ b) → ((code == a) || (code == b)) ≡ true
one_of code a b (inl e) = rw (eq-eqb code a e) refl
one_of code a b (inr e) = rw (ne_eqb code a e.0) (eq-eqb code b e.1)

pub neither : (code a b : ℕ) → code ≢ a → code ≢ b → ((code == a) || (code == b)) ≡ false
neither code a b x y = rw (ne_eqb code a x) (ne_eqb code b y)

-- more is allowed
pub entered : (a : Acted) (n m more : ℕ) → m ≤ more → Enters a (n ≤ m) → Enters a (n ≤ more)
entered (acted.Gives value) n m more le h = omega (arith, le, h)
entered (acted.Asks question) n m more le h = absurd h
entered acted.TooDeep n m more le h = tt
entered acted.Spent n m more le h = tt
