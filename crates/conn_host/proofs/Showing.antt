-- The first credentials that a field shows, from a place on.
use Rattle.std.proofs.Common.{◌≡◌, ◌∙◌, ap, refl, ℕ, ◌+◌, ◌<◌, List, ◌∷◌, length, drop, get_or, Option, Some, None, add-one}
use Rattle.std.proofs.Math.Seq.{drop-cons}
use Rattle.std.specs.Prelude.{filter_map}
use Rattle.std.specs.List.{cons_option}
use Rattle.ns_sets.specs.Fields.{Field}
use Rattle.conn_host.specs.Credentials.{first_of}
use Rattle.conn_host.specs.declared.authorization.Credentials.{Credentials}

from : (fields : List Field) (i : ℕ) (d : Field) → i < length fields → drop i fields ≡ get_or fields i d ∷ drop (i + 1) fields
from fields i d lt = drop-cons fields i d lt ∙ rw add-one refl

-- they are those of the field there, if it shows any, or else those from the next place on
pub first_from : (shown : Field → Option Credentials) (fields : List Field) (i : ℕ) (d : Field) (here : Option Credentials) → i < length fields → shown (get_or fields i d) ≡ here
    → first_of (filter_map shown (drop i fields)) ≡ first_of (cons_option here (filter_map shown (drop (i + 1) fields)))
first_from shown fields i d here lt is =
    ap (λ (fs : List Field). first_of (filter_map shown fs)) (from fields i d lt)
    ∙ ap (λ (o : Option Credentials). first_of (cons_option o (filter_map shown (drop (i + 1) fields)))) is
