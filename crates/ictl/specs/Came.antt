-- An interpreter with what it answered last.
use Rattle.std.specs.Prelude.{◌≡◌, ◌≢◌, [], Option, Some, None}
use Rattle.outside.specs.declared.question.Question.{Question}
use Rattle.http_resp.specs.declared.response.Response.{Response}
use Rattle.ictl.specs.declared.interp.Interp.{Interp}
use Rattle.ictl.specs.declared.next.Next.{Next}
use Rattle.ictl.specs.declared.next.Next.TheVariants.{Asks, Write, NoMemory}

-- An interpreter, and what it came to: its question, its response, its end, or want of memory.
pub record Came : Type 0 where
  pub next : Next
  pub interp : Interp

-- it stands at a question, which `resume` answers
abbrev pub IsAtQuestion : Came → Type 0
IsAtQuestion came = (question : Question) × (came.next ≡ Asks question)

-- it stands at a response, of which `written` tells
abbrev pub IsAtResponse : Came → Type 0
IsAtResponse came = (response : Response) × (came.next ≡ Write response)

-- The question was taken out: it stands there still, and the words of the question are gone. Where it stands at none, nothing is taken.
abbrev pub Takes : Option Question → Came → Came → Type 0
Takes None before after = ((question : Question) → before.next ≢ Asks question) × (after ≡ before)
Takes (Some question) before after =
    (before.next ≡ Asks question) × (after ≡ record before { next = Asks (record question { words = [] }) })

-- nothing more comes of it
abbrev pub given_up : Came → Came
given_up came = record came { next = NoMemory }
