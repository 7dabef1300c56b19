-- `diagnosis::requests::find_in_wanted` meets its contract.
use Rattle.body.specs.View.{body_of}
use Rattle.diagnosis.proofs.requests.find_in_wanted.Goals as goal

pub returns-in-Invoke : goal.returns-in-Invoke
returns-in-Invoke c =
    rw c.in-Invoke.is (c.find_in_action.ensures (body_of c.args.ready.meter.body))

pub returns-in-InvokeWith : goal.returns-in-InvokeWith
returns-in-InvokeWith c =
    rw c.in-InvokeWith.is (c.find_in_action-in-InvokeWith.ensures (body_of c.args.ready.meter.body))
