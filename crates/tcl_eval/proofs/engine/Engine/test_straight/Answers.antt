use Rattle.tcl_eval.proofs.engine.Engine.test_straight.Goals as goal

pub returns-in-Some-true-clause-means : goal.returns-in-Some-true-clause-means
returns-in-Some-true-clause-means g c = λ ns levels second first k gv.
    let test = rw c.in-Some-true.field-0-test at c.in-Some-true.ensures.means in
    test ns levels second first k gv

pub returns-in-Some-false-clause-means : goal.returns-in-Some-false-clause-means
returns-in-Some-false-clause-means g c = λ ns levels second first k gv.
    let test = rw c.in-Some-false.field-0-test at c.in-Some-false.ensures.means in
    test ns levels second first k gv

pub returns-in_ok-tested-in-None-clause-means : goal.returns-in_ok-tested-in-None-clause-means
returns-in_ok-tested-in-None-clause-means g c =
    rw c.in-None.ensures.left at c.in_ok-tested-in-None.ensures.means
