-- Responses with content and without.
use Rattle.std.proofs.Common.{◌≡◌, ℕ, Bool, true, false, not, ◌||◌, ◌⊎◌, inl, inr, List, [], ◌++◌, length, codes, decimal, if◌then◌else◌, refl, sym, ap, ◌∙◌, append-nil, append_assoc}
use Rattle.std.specs.Prelude.{filter, ◌∷◌}
use Rattle.std.proofs.lemmas.Grind.{flat_map-append}
use Rattle.http_resp.specs.Moment.{fixdate}
use Rattle.http_resp.specs.OutputFields.{field_line, field_lines, is_sent, output_lines}
use Rattle.std.specs.Fmt.{digits}
use Rattle.http_resp.specs.StatusLine.{status_line, reason}
use Rattle.http_resp.specs.HeadLines.{first_lines, last_lines}
use Rattle.http_resp.specs.ResponseBytes.{has_content, content_fields, connection_field, server_name, head_bytes, response_bytes}
use Rattle.http_resp.specs.declared.response.Response.{Response}

pub no_content_lines : (response : Response) → has_content response.status ≡ false → field_lines (content_fields response) ≡ []
unfolding content_fields
no_content_lines response without = rw without refl

pub content_lines_are : (response : Response) → has_content response.status ≡ true → field_lines (content_fields response) ≡ field_line (codes "Content-Type") response.kind ++ field_line (codes "Content-Length") (decimal (length response.body))
unfolding content_fields
content_lines_are response with_content = rw (with_content, append-nil) refl

-- three parts that are appended one after another are one part that is appended
joined : (before start value end : List ℕ) → ((before ++ start) ++ value) ++ end ≡ before ++ (start ++ (value ++ end))
joined before start value end = append_assoc (before ++ start) value end ∙ append_assoc before start (value ++ end)

-- five parts that are appended one after another, of which three are told otherwise
five_appended : (before type kind between count end kind_is count_is end_is first second third fourth after : List ℕ)
    → first ≡ before ++ type → second ≡ first ++ kind → third ≡ second ++ between → fourth ≡ third ++ count → after ≡ fourth ++ end
    → kind ≡ kind_is → count ≡ count_is → end ≡ end_is
    → after ≡ ((((before ++ type) ++ kind_is) ++ between) ++ count_is) ++ end_is
five_appended before type kind between count end kind_is count_is end_is first second third fourth after a b c d e k n l = cc

around_content : (before type kind end long count last : List ℕ)
    → ((((before ++ type) ++ kind) ++ (end ++ long)) ++ count) ++ (end ++ last)
    ≡ before ++ (((type ++ (kind ++ end)) ++ (long ++ (count ++ end))) ++ last)
around_content before type kind end long count last = simp (append_assoc, append-nil)

-- the content's two lines and what follows them, appended in five pieces
pub content_end_from : (response : Response) (last before first second third fourth after kind count end : List ℕ) → has_content response.status ≡ true
    → first ≡ before ++ codes "Content-Type: " → second ≡ first ++ kind → third ≡ second ++ codes "\r\nContent-Length: "
    → fourth ≡ third ++ count → after ≡ fourth ++ end
    → kind ≡ response.kind → count ≡ decimal (length response.body) → end ≡ codes "\r\n" ++ last
    → after ≡ before ++ (field_lines (content_fields response) ++ last)
unfolding field_line
content_end_from response last before first second third fourth after kind count end with_content a b c d e type long ends =
    let pieces = five_appended before (codes "Content-Type: ") kind (codes "\r\nContent-Length: ") count end response.kind (decimal (length response.body)) (codes "\r\n" ++ last) first second third fourth after a b c d e type long ends in
    pieces
    ∙ around_content before (codes "Content-Type: ") response.kind (codes "\r\n") (codes "Content-Length: ") (decimal (length response.body)) last
    ∙ ap (λ (lines : List ℕ). before ++ (lines ++ last)) (sym (content_lines_are response with_content))

-- the line of the date, appended with what begins it
pub dated : (before after date shown : List ℕ) → after ≡ before ++ codes "Date: " ++ date ++ codes "\r\n" → date ≡ shown
    → after ≡ before ++ field_line (codes "Date") shown
unfolding field_line
dated before after date shown written is =
    let line : after ≡ before ++ field_line (codes "Date") date = written ∙ joined before (codes "Date: ") date (codes "\r\n") in
    line ∙ ap (λ d. before ++ field_line (codes "Date") d) is

without_body : (head body : List ℕ) (head_only content : Bool) → (head_only ≡ true) ⊎ (content ≡ false) → head ≡ head ++ (if head_only || not content then [] else body)
without_body head body true content either = sym (append-nil head)
without_body head body false true either = elim either [ inl wrong ↦ cc | inr wrong ↦ cc ]
without_body head body false false either = sym (append-nil head)

pub head_alone : (response : Response) (moment : ℕ) (head_only close : Bool) → (head_only ≡ true) ⊎ (has_content response.status ≡ false) → head_bytes response moment close ≡ response_bytes response moment head_only close
unfolding response_bytes
head_alone response moment head_only close either = without_body _ _ head_only (has_content response.status) either

pub head_and_body : (response : Response) (moment : ℕ) (head_only close : Bool) → head_only ≡ false → has_content response.status ≡ true → head_bytes response moment close ++ response.body ≡ response_bytes response moment head_only close
unfolding response_bytes
head_and_body response moment head_only close whole content = rw (whole, content) refl

-- what stands before the output fields, appended in three parts
pub first_appended : (before status date server first second last : List ℕ) → first ≡ before ++ status → second ≡ first ++ date → last ≡ second ++ server
    → last ≡ before ++ (status ++ (date ++ server))
first_appended before status date server first second last s d v =
    v ∙ ap (λ (t : List ℕ). t ++ server) (d ∙ ap (λ (t : List ℕ). t ++ date) s)
    ∙ append_assoc (before ++ status) date server
    ∙ append_assoc before status (date ++ server)

around_date : (line name date end server : List ℕ) → (line ++ name) ++ (date ++ (end ++ server)) ≡ line ++ ((name ++ date ++ end) ++ server)
around_date line name date end server = simp (append_assoc, append-nil)

-- the same of a response of status 200, as one text but for its date
pub first_lines_are : (moment : ℕ) (date : List ℕ) → date ≡ fixdate moment
    → codes "HTTP/1.1 200 OK\r\nDate: " ++ (date ++ codes "\r\nServer: AOLserver-profile/1\r\n") ≡ first_lines 200 moment
unfolding digits status_line reason field_line
first_lines_are moment date is =
    rw is (around_date (codes "HTTP/1.1 200 OK\r\n") (codes "Date: ") (fixdate moment) (codes "\r\n") (codes "Server: AOLserver-profile/1\r\n"))

-- Parts that are appended one after another.
pub appended : (start output end before first second last : List ℕ)
    → first ≡ before ++ start → second ≡ first ++ output → last ≡ second ++ end
    → last ≡ before ++ (start ++ output ++ end)
appended start output end before first second last s o e =
    e ∙ ap (λ (t : List ℕ). t ++ end) (o ∙ ap (λ (t : List ℕ). t ++ output) s ∙ append_assoc before start output)
    ∙ append_assoc before (start ++ output) end

glued : (status date server output content connection end : List ℕ)
    → (status ++ (date ++ server)) ++ output ++ (content ++ (connection ++ end)) ≡ (status ++ (date ++ (server ++ ((output ++ content) ++ (connection ++ []))))) ++ end
glued status date server output content connection end = simp (append_assoc, append-nil)

lines_apart : (outputs contents : List (List ℕ × List ℕ)) (last : List ℕ × List ℕ)
    → field_lines ((outputs ++ contents) ++ last ∷ []) ≡ (field_lines outputs ++ field_lines contents) ++ (field_line last.0 last.1 ++ [])
lines_apart outputs contents last =
    flat_map-append (λ (field : List ℕ × List ℕ). field_line field.0 field.1) (outputs ++ contents) (last ∷ [])
    ∙ ap (λ l. l ++ (field_line last.0 last.1 ++ [])) (flat_map-append (λ (field : List ℕ × List ℕ). field_line field.0 field.1) outputs contents)

-- a head is these parts, one after another
pub head_parts : (response : Response) (moment : ℕ) (close : Bool)
    → first_lines response.status moment ++ output_lines response.fields ++ (field_lines (content_fields response) ++ last_lines close)
    ≡ head_bytes response moment close
unfolding head_bytes output_lines
head_parts response moment close =
    glued (status_line response.status) (field_line (codes "Date") (fixdate moment)) (field_line (codes "Server") server_name) (output_lines response.fields) (field_lines (content_fields response)) (field_line (connection_field close).0 (connection_field close).1) (codes "\r\n")
    ∙ ap (λ l. (status_line response.status ++ (field_line (codes "Date") (fixdate moment) ++ (field_line (codes "Server") server_name ++ l))) ++ codes "\r\n") (sym (lines_apart (filter is_sent response.fields) (content_fields response) (connection_field close)))
