use Rattle.std.proofs.Common.{◌≡◌, [], ◌∷◌, ◌++◌, rules, true, false, append-nil}
use Rattle.std.proofs.lemmas.Result.{err_from_is_err_and}
use Rattle.txt_core.specs.Lists.{done, bad, put, is_end, ElementAt, no_element, bad_element, one_element, Reads}
use Rattle.tcl_list.proofs.Answering.{stopped_map, front-push}
use Rattle.tcl_list.proofs.splitting.elements.Goals as goal

pub returns-in_err-word : goal.returns-in_err-word
returns-in_err-word c =
    let p = err_from_is_err_and c.from_residual.result c.from_residual.ensures.1 in
    let goes_on : is_end c.elements.rest.now ≡ false = search rules in
    rw (p.1, p.2) (stopped_map (ElementAt c.elements.rest.now) (Reads c.args.bytes.now) (λ n h. c.elements.invariant.same (bad n) (bad_element goes_on h)) c.in_err-word.field-0.0 c.in_err-word.ensures.same)

pub elements-preserved : goal.elements-preserved
elements-preserved c =
    let goes_on : is_end c.elements.rest.now ≡ false = search rules in
    let pushed : c.push.new.self ≡ c.elements.words ++ (c.in_ok-word.word ∷ []) = search rules in
    record {
      same = λ o h.
          let later = rw c.to_element-rest-in-elements.ensures.same at h in
          rw (pushed, front-push) (c.elements.invariant.same (put c.in_ok-word.word o) (one_element goes_on c.in_ok-word.ensures.same later));
      shorter = search rules;
      stands = search rules;
    }

pub returns : goal.returns
returns c =
    let stops : is_end c.elements.rest.now ≡ true = search rules in
    let none : c.elements.rest.now ≡ [] = search rules in
    let read = c.elements.invariant.same (done [] c.elements.rest.now) (no_element stops) in
    let whole = rw none at read in
    rw (← append-nil c.elements.words) whole
