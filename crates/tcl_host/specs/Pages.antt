-- Commands that ask for a page: what they ask, and what they are told.
use Rattle.std.specs.Prelude.{[], ◌∷◌, if◌then◌else◌, Result, Ok, Err}
use Rattle.txt_core.specs.Names.{Bytes}
use Rattle.txt_core.specs.Limits.{is_long}
use Rattle.txt_core.specs.ErrorTexts.{no_page, page_fault, page_too_long}
use Rattle.outside.specs.declared.question.Question.{Question}
use Rattle.outside.specs.declared.question.Service.TheVariants as service
use Rattle.outside.specs.declared.question.Answer.{Answer}
use Rattle.outside.specs.declared.question.Answer.TheVariants.{Said, Failed, Page, NoPage, PageFault}

-- the question for the page of a path
abbrev pub page_question : Bytes → Question
page_question path = record { service = service.Page; words = path ∷ [] }

-- What an answer to it comes to: the page, where it isn't too long, and else the text of an error. Pages neither say anything nor
-- refuse: what was refused is an error with the reason, and what was said is an error without one.
abbrev pub page_told : Bytes → Answer → Result Bytes Bytes
page_told path (Page page) = if is_long page then Err (page_too_long path) else Ok page
page_told path NoPage = Err (no_page path)
page_told path PageFault = Err (page_fault path)
page_told path (Failed why) = Err why
page_told path (Said text) = Err []
