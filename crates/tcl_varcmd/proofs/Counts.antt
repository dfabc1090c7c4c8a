-- Numbers of words, lengths and names.
use Rattle.std.proofs.Common.{◌≡◌, ◌≤◌, ℕ, List, length, true, false, Some, None, refl, arith}
use Rattle.std.specs.Bool.{nat_lt}
use Rattle.std.specs.Prelude.{codes}
use Rattle.tcl_frame.specs.Stack.{Stack}
use Rattle.tcl_frame.specs.Names.{named, is_element}
use Rattle.tcl_frame.specs.Frames.{link_fault}
use Rattle.std.proofs.lemmas.Bool.Decides.{nat_tests}
use Rattle.txt_core.specs.ErrorTexts.{wrong_words, too_long, bad_value}
use Rattle.txt_core.specs.Limits.{is_long}
use Rattle.tcl_varcmd.specs.Errors.{refused, global_error, count_error, least_error, long_error}

pub too_few : (least most : ℕ) (words : List (List ℕ)) (command : List ℕ) → nat_lt (length words) least ≡ true → count_error least most words command ≡ Some (wrong_words command)
unfolding count_error
too_few least most words command h = rw h refl

pub too_many : (least most : ℕ) (words : List (List ℕ)) (command : List ℕ) → nat_lt (length words) least ≡ false → nat_lt most (length words) ≡ true → count_error least most words command ≡ Some (wrong_words command)
unfolding count_error
too_many least most words command h k = rw (h, k) refl

pub right_count : (least most : ℕ) (words : List (List ℕ)) (command : List ℕ) → nat_lt (length words) least ≡ false → nat_lt most (length words) ≡ false → count_error least most words command ≡ None
unfolding count_error
right_count least most words command h k = rw (h, k) refl

pub too_few_least : (least : ℕ) (words : List (List ℕ)) (command : List ℕ) → nat_lt (length words) least ≡ true → least_error least words command ≡ Some (wrong_words command)
unfolding least_error
too_few_least least words command h = rw h refl

pub enough : (least : ℕ) (words : List (List ℕ)) (command : List ℕ) → nat_lt (length words) least ≡ false → least_error least words command ≡ None
unfolding least_error
enough least words command h = rw h refl

pub not_less : (a b : ℕ) → nat_lt a b ≡ false → b ≤ a
not_less a b h = grind (arith, nat_tests, h)

pub is_too_long : (value : List ℕ) → is_long value ≡ true → long_error value ≡ Some too_long
unfolding long_error
is_too_long value h = rw h refl

pub is_short : (value : List ℕ) → is_long value ≡ false → long_error value ≡ None
unfolding long_error
is_short value h = rw h refl

-- ---- names that are made global

pub no_global : (stack : Stack) (name : List ℕ) → is_element (named name) ≡ true → global_error stack name ≡ Some (bad_value name (codes "global"))
unfolding global_error
no_global stack name h = rw h refl

pub plain_global : (stack : Stack) (name : List ℕ) → is_element (named name) ≡ false → refused name (link_fault stack name) ≡ global_error stack name
unfolding global_error
plain_global stack name h = rw h refl
