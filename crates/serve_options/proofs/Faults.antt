-- What `clap` says of words that it refuses.
use Rattle.std.proofs.Common.{◌≡◌, ◌≢◌, ◌⊎◌, inl, inr, ◌∙◌, List, [], Option, Some, None, refl, subst, sym, true}
use Rattle.std.specs.List.{All}
use Rattle.std.specs.Prelude.{IfErr, IfOk, IfSome, Ok, Err, Result}
use Rattle.std.specs.Result.{result_err}
use Rattle.std.specs.Str.{IsUtf8}
use Rattle.clap.specs.Kinds.{Kinds}
use Rattle.clap.specs.Words.{FailsBy, HasKind, IsAmong, Text, fault_of, is_simple_and_free, kind_of, matches_of}
use Rattle.clap.specs.declared.error.Error.{Error}
use Rattle.clap.specs.declared.error.kind.ErrorKind.{ErrorKind}
use Rattle.clap.specs.declared.error.kind.ErrorKind.TheVariants as kind
use Rattle.clap.proofs.OnLiterals.{clap_on_literals}
use Rattle.serve_options.specs.Command.{serve_app}
use Rattle.serve_options.specs.Reading.{AreIn, AreReadFrom, AreTaken, AskForText}
use Rattle.serve_options.specs.declared.options.Options.{Options}
use Rattle.serve_options.specs.declared.options.Refused.{Refused}
use Rattle.serve_options.specs.declared.options.Refused.TheVariants.{BadWords}

-- the command's arguments have no rule on one another
pub is_free_app : is_simple_and_free serve_app ≡ true
unfolding clap_on_literals
is_free_app = refl

-- the error that comes has one of the kinds
pub err_kind : {T : Type 0} (kinds : Kinds) (r : Result T Error) (o : Option Error) → o ≡ result_err r → FailsBy kinds r → IfSome o (HasKind kinds)
err_kind kinds (Ok t) o is fails = subst (λ p. IfSome p (HasKind kinds)) (sym is) tt
err_kind kinds (Err e) o is fails = subst (λ p. IfSome p (HasKind kinds)) (sym is) fails

-- where no kind comes, memory ran out
pub only_memory : (kinds : Kinds) (e : Error) → HasKind kinds e → kind_of e ≢ kind.OutOfMemory → kinds ≢ []
only_memory kinds e (inl memory) other none = other memory
only_memory kinds e (inr among) other none = subst (IsAmong (kind_of e)) none among

-- the kind of an error that isn't want of memory is one of them
among : (kinds : Kinds) (e : Error) (k : ErrorKind) → kind_of e ≡ k → k ≢ kind.OutOfMemory → HasKind kinds e → IsAmong k kinds
among kinds e k is other (inl memory) = absurd (other (sym is ∙ memory))
among kinds e k is other (inr has) = subst (λ x. IsAmong x kinds) is has

-- an error that is the help or the version is asked for
asks : (words : List Text) (e : Error) → All IsUtf8 words → HasKind (fault_of serve_app words) e
    → (kind_of e ≡ kind.DisplayHelp) ⊎ (kind_of e ≡ kind.DisplayVersion) → AskForText words
asks words e utf8 has (inl help) = (utf8, inl (among _ e kind.DisplayHelp help (λ bad. cc) has))
asks words e utf8 has (inr version) = (utf8, inr (among _ e kind.DisplayVersion version (λ bad. cc) has))

-- an error that is shown is the one that was found
pub shown_asks : (words : List Text) (error : Error) (shown : Option Error) → All IsUtf8 words → HasKind (fault_of serve_app words) error
    → IfSome shown (λ e. (e ≡ error) × ((kind_of e ≡ kind.DisplayHelp) ⊎ (kind_of e ≡ kind.DisplayVersion))) → IfSome shown (λ e. AskForText words)
shown_asks words error None utf8 has is = tt
shown_asks words error (Some e) utf8 has is =
    asks words error utf8 has (subst (λ x. (kind_of x ≡ kind.DisplayHelp) ⊎ (kind_of x ≡ kind.DisplayVersion)) is.0 is.1)

pub read_whole : (words : List Text) (r : Result Options Refused) → All IsUtf8 words → IfOk r (λ options. fault_of serve_app words ≡ [])
    → IfOk r (AreIn (matches_of serve_app words)) → IfOk r (AreReadFrom words)
read_whole words (Ok options) utf8 taken read = ((utf8, taken), read)
read_whole words (Err e) utf8 taken read = tt

pub refused_whole : (words : List Text) (r : Result Options Refused) → IfErr r (λ e. e ≡ BadWords → fault_of serve_app words ≢ [])
    → IfErr r (λ e. e ≡ BadWords → ¬ (AreTaken words))
refused_whole words (Ok options) refused = tt
refused_whole words (Err e) refused = λ bad taken. refused bad taken.1
