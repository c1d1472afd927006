-- `Plan::read` meets its contract: by where reading its lines stops. Assumes nothing.
use Rattle.plan.specs.code.Reading.{lines-refused, lines-done}
use Rattle.plan.specs.theorems.Reading.{read_told}
use Rattle.plan.proofs.plan.Plan.read.Goals as goal

pub returns-in-Ok : goal.returns-in-Ok
returns-in-Ok c =
    let told = read_told _ (lines-done c.in-Ok.ensures) in
    record { answer = told.0; told = told.1.1 }

pub returns-in-Err : goal.returns-in-Err
returns-in-Err c =
    let told = read_told _ (lines-refused c.in-Err.ensures c.start.ensures) in
    record { answer = told.0; told = told.1.1 }
