use Rattle.std.proofs.Common.{◌≡◌, ◌∷◌, [], Some, List, ℕ, ◌∙◌, ap, subst, sym}
use Rattle.http_resp.specs.ResponseBytes.{response_bytes}
use Rattle.rehearse.specs.declared.listing.Listing.{Listing}
use Rattle.rehearse.specs.Lines.{response}
use Rattle.rehearse.specs.Playing.{Tells}
use Rattle.rehearse.proofs.Telling.{on_ok}
use Rattle.rehearse.proofs.worker.Worker.tell.Goals as goal

told_as : (before after : Listing) (number epoch other status : ℕ) (bytes others : List ℕ) → epoch ≡ other → bytes ≡ others → Tells before (response number (Some epoch) status bytes ∷ []) after
    → Tells before (response number (Some other) status others ∷ []) after
told_as before after number epoch other status bytes others epoch_is bytes_are h =
    subst (λ (b : List ℕ). Tells before (response number (Some other) status b ∷ []) after) bytes_are
    (subst (λ (e : ℕ). Tells before (response number (Some e) status bytes ∷ []) after) epoch_is h)

pub returns : goal.returns
returns c =
    rw (sym c.get-given.ensures)
    (on_ok c.push_response.result
    (told_as c.args.listing.now c.push_response.new.self c.args.self.now.number c.epoch-epoch.result _ c.get-given.result.now.status c.bytes.result.now _ c.epoch-epoch.ensures
    (c.bytes.ensures ∙ c.in_ok-bytes.ensures ∙ ap (response_bytes c.get-given.result.now c.args.serving.now.moment c.args.serving.now.head_only) c.closes-closes.ensures))
    c.push_response.ensures)
