-- What is told, piece by piece.
use Rattle.std.proofs.Common.{◌≡◌, ℕ, zero, suc, List, [], ◌∷◌, ◌++◌, length, Option, Result, Ok, Err, refl, ap, ◌∙◌, append_assoc, append-nil}
use Rattle.std.specs.Prelude.{OnOk, decimal, codes}
use Rattle.tcl_eval.specs.declared.outcome.Outcome.{Outcome}
use Rattle.tcl_eval.specs.declared.outcome.Outcome.TheVariants as outcomes
use Rattle.txt_core.specs.declared.memory.NoMemory.{NoMemory}
use Rattle.rehearse.specs.Defining.{define_line}
use Rattle.rehearse.specs.Events.{line_end}
use Rattle.rehearse.specs.Lines.{define_error, response, script, script_spent, script_deep, epoch_word, listing_of}

-- what follows from a good end
pub on_ok : (r : Result (Unit {0}) NoMemory) (P Q : Type 0) → (P → Q) → OnOk r P → OnOk r Q
on_ok (Ok u) P Q f h = f h
on_ok (Err e) P Q f h = tt

-- a block that ended with another code than 0 ended in an error
pub error_line : (outcome : Outcome) (code epoch : ℕ) (result : List ℕ) → outcome ≡ outcomes.Done code result → ¬ (code ≡ 0) → define_line epoch outcome ≡ define_error result
error_line outcome code epoch result is some = ap (define_line epoch) is ∙ by_code code some
  where
    by_code : (n : ℕ) → ¬ (n ≡ 0) → define_line epoch (outcomes.Done n result) ≡ define_error result
    by_code zero not = absurd (not refl)
    by_code (suc n) not = refl

error_told : (t result : List ℕ) → (t ++ codes "define error ") ++ decimal (length result) ++ line_end ++ result ++ line_end ≡ t ++ listing_of (define_error result ∷ [])
error_told t result = grouped t (codes "define error ") (decimal (length result)) line_end result
  where
    grouped : (t a d n r : List ℕ) → ((((t ++ a) ++ d) ++ n) ++ r) ++ n ≡ t ++ ((((a ++ d) ++ n) ++ (r ++ n)) ++ [])
    grouped t a d n r = simp (append_assoc, append-nil) refl

pub tells_error : (t a b result : List ℕ) → a ≡ t ++ codes "define error " → b ≡ a ++ decimal (length result) ++ line_end ++ result ++ line_end
    → b ≡ t ++ listing_of (define_error result ∷ [])
tells_error t a b result e f =
    f ∙ ap (λ (x : List ℕ). x ++ decimal (length result) ++ line_end ++ result ++ line_end) e ∙ error_told t result

response_told : (t bytes : List ℕ) (number : ℕ) (epoch : Option ℕ) (status : ℕ)
    → (((t ++ codes "response ") ++ decimal number ++ codes " ") ++ epoch_word epoch ++ codes " ") ++ decimal (length bytes) ++ line_end ++ bytes ++ line_end
    ≡ t ++ listing_of (response number epoch status bytes ∷ [])
response_told t bytes number epoch status =
    grouped t (codes "response ") (decimal number) (codes " ") (epoch_word epoch) (decimal (length bytes)) line_end bytes
  where
    grouped : (t s a p b d n r : List ℕ) → ((((((((t ++ s) ++ a) ++ p) ++ b) ++ p) ++ d) ++ n) ++ r) ++ n
        ≡ t ++ ((((s ++ (a ++ (p ++ (b ++ (p ++ d))))) ++ n) ++ (r ++ n)) ++ [])
    grouped t s a p b d n r = simp (append_assoc, append-nil) refl

pub tells_response : (t a b c d bytes : List ℕ) (number : ℕ) (epoch : Option ℕ) (status : ℕ) → a ≡ t ++ codes "response " → b ≡ a ++ decimal number ++ codes " "
    → c ≡ b ++ epoch_word epoch ++ codes " " → d ≡ c ++ decimal (length bytes) ++ line_end ++ bytes ++ line_end
    → d ≡ t ++ listing_of (response number epoch status bytes ∷ [])
tells_response t a b c d bytes number epoch status e f g h =
    h ∙ ap (λ (x : List ℕ). x ++ decimal (length bytes) ++ line_end ++ bytes ++ line_end)
    (g ∙ ap (λ (x : List ℕ). x ++ epoch_word epoch ++ codes " ") (f ∙ ap (λ (x : List ℕ). x ++ decimal number ++ codes " ") e))
    ∙ response_told t bytes number epoch status

-- the words in front of a script's end
pub begins_script : (t a b c : List ℕ) (id epoch : ℕ) → a ≡ t ++ codes "script " → b ≡ a ++ decimal id ++ codes " " → c ≡ b ++ decimal epoch ++ codes " "
    → c ≡ ((t ++ codes "script ") ++ decimal id ++ codes " ") ++ decimal epoch ++ codes " "
begins_script t a b c id epoch e f g =
    g ∙ ap (λ (x : List ℕ). x ++ decimal epoch ++ codes " ") (f ∙ ap (λ (x : List ℕ). x ++ decimal id ++ codes " ") e)

script_told : (t result : List ℕ) (id epoch code : ℕ)
    → ((((t ++ codes "script ") ++ decimal id ++ codes " ") ++ decimal epoch ++ codes " ") ++ decimal code ++ codes " ") ++ decimal (length result) ++ line_end ++ result ++ line_end
    ≡ t ++ listing_of (script id epoch code result ∷ [])
script_told t result id epoch code =
    grouped t (codes "script ") (decimal id) (codes " ") (decimal epoch) (decimal code) (decimal (length result)) line_end result
  where
    grouped : (t s a p b c d n r : List ℕ) → ((((((((((t ++ s) ++ a) ++ p) ++ b) ++ p) ++ c) ++ p) ++ d) ++ n) ++ r) ++ n
        ≡ t ++ ((((s ++ (a ++ (p ++ (b ++ (p ++ (c ++ (p ++ d))))))) ++ n) ++ (r ++ n)) ++ [])
    grouped t s a p b c d n r = simp (append_assoc, append-nil) refl

pub tells_script : (t c d e result : List ℕ) (id epoch code : ℕ)
    → c ≡ ((t ++ codes "script ") ++ decimal id ++ codes " ") ++ decimal epoch ++ codes " "
    → d ≡ c ++ decimal code ++ codes " " → e ≡ d ++ decimal (length result) ++ line_end ++ result ++ line_end
    → e ≡ t ++ listing_of (script id epoch code result ∷ [])
tells_script t c d e result id epoch code f g h =
    h ∙ ap (λ (x : List ℕ). x ++ decimal (length result) ++ line_end ++ result ++ line_end) (g ∙ ap (λ (x : List ℕ). x ++ decimal code ++ codes " ") f)
    ∙ script_told t result id epoch code

spent_told : (t : List ℕ) (id epoch : ℕ)
    → (((t ++ codes "script ") ++ decimal id ++ codes " ") ++ decimal epoch ++ codes " ") ++ codes "spent\n" ≡ t ++ listing_of (script_spent id epoch ∷ [])
spent_told t id epoch = simp (append_assoc, append-nil) refl

pub tells_spent : (t c d : List ℕ) (id epoch : ℕ) → c ≡ ((t ++ codes "script ") ++ decimal id ++ codes " ") ++ decimal epoch ++ codes " "
    → d ≡ c ++ codes "spent\n" → d ≡ t ++ listing_of (script_spent id epoch ∷ [])
tells_spent t c d id epoch f g = g ∙ ap (λ (x : List ℕ). x ++ codes "spent\n") f ∙ spent_told t id epoch

deep_told : (t : List ℕ) (id epoch : ℕ)
    → (((t ++ codes "script ") ++ decimal id ++ codes " ") ++ decimal epoch ++ codes " ") ++ codes "deep\n" ≡ t ++ listing_of (script_deep id epoch ∷ [])
deep_told t id epoch = simp (append_assoc, append-nil) refl

pub tells_deep : (t c d : List ℕ) (id epoch : ℕ) → c ≡ ((t ++ codes "script ") ++ decimal id ++ codes " ") ++ decimal epoch ++ codes " "
    → d ≡ c ++ codes "deep\n" → d ≡ t ++ listing_of (script_deep id epoch ∷ [])
tells_deep t c d id epoch f g = g ∙ ap (λ (x : List ℕ). x ++ codes "deep\n") f ∙ deep_told t id epoch
