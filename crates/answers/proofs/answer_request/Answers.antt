-- `answers::answer_request` meets its contract.
use Rattle.body.specs.View.{body_of}
use Rattle.body.proofs.BodyLaws.{sound_fits}
use Rattle.answers.proofs.AnswerLaws.{turns_by, asked_is}
use Rattle.answers.proofs.answer_request.Goals as goal

pub find-found-requires : goal.find-found-requires
find-found-requires c = (sound_fits c.args.body c.requires.0).registers

pub returns-in-Read : goal.returns-in-Read
unfolding body_of
returns-in-Read c =
    turns_by (asked_is c.args.query c.args.apdu.now (body_of c.args.body) c.in-Read.is c.find-found.ensures) c.answer_get.ensures

pub returns-in-ReadSelected : goal.returns-in-ReadSelected
unfolding body_of
returns-in-ReadSelected c =
    turns_by (asked_is c.args.query c.args.apdu.now (body_of c.args.body) c.in-ReadSelected.is c.find-found.ensures) c.answer_get-in-ReadSelected.ensures

pub returns-in-Invoke : goal.returns-in-Invoke
unfolding body_of
returns-in-Invoke c =
    turns_by (asked_is c.args.query c.args.apdu.now (body_of c.args.body) c.in-Invoke.is c.find-found.ensures) c.answer_action.ensures

pub returns-in-InvokeWith : goal.returns-in-InvokeWith
unfolding body_of
returns-in-InvokeWith c =
    turns_by (asked_is c.args.query c.args.apdu.now (body_of c.args.body) c.in-InvokeWith.is c.find-found.ensures) c.answer_action-in-InvokeWith.ensures
