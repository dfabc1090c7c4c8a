-- How an interpreter, alone and with what it answered last, is stored by proofs.
use Rattle.std.specs.Prelude.{refl}
use Rattle.std.specs.Coded.{Coded, code_by, coded×}
use Rattle.ictl.specs.Came.{Came}
use Rattle.ictl.specs.declared.interp.Interp.{Interp}
use Rattle.ictl.specs.declared.next.Next.{Next}
use Rattle.ictl.specs.contracts.interp.Interp as interp
use Rattle.ictl.specs.contracts.next.Next as next

-- an interpreter as the record of its parts
abbrev pub interp_code : Coded Interp
interp_code = interp.the_row.coded

-- an interpreter with what it answered last, as the pair of both
abbrev pub came_code : Coded Came
came_code =
    code_by (Next × Interp) (coded× next.the_row.coded interp_code)
    (λ c. (c.next, c.interp)) (λ p. record { next = p.0; interp = p.1 }) (λ _. refl)
