-- `diagnosis::requests::find_in_request` meets its contract.
use mathlib.Core.Path.{◌≡◌, subst}
use Rattle.model.specs.Objects.{Request, Service, Meaning, meaning}
use Rattle.model.specs.State.{Body}
use Rattle.cosem.specs.Requests.{requested, service_in}
use Rattle.line.specs.View.{line_of}
use Rattle.protocol.specs.Clients.{blocks_in, selective_in}
use Rattle.body.specs.View.{body_of}
use Rattle.body.proofs.BodyLaws.{sound_fits}
use Rattle.meter.proofs.MeterLaws.{sound_body}
use Rattle.call_tests.specs.Finding.{Finding}
use Rattle.call_tests.specs.Road.{body_finds, service_finds}
use Rattle.diagnosis.proofs.requests.find_in_request.Goals as goal

-- what is found of a request, its name being n, and what n means
named : {A : Type 0} (b : Body) (q : A → Request) (w : A → Meaning) (s : Service) (r : Finding) {n m : A} {v : Meaning} → n ≡ m → v ≡ w n → r ≡ service_finds (q n) b v s → r ≡ service_finds (q m) b (w m) s
named b q w s r {n} {m} {v} e f h =
    subst (λ x. r ≡ service_finds (q x) b (w x) s) e (subst (λ x. r ≡ service_finds (q n) b x s) f h)

pub find-found-requires : goal.find-found-requires
find-found-requires c =
    (sound_fits c.args.ready.meter.body (sound_body c.args.ready.meter c.args.ready.is_sound)).registers

pub returns : goal.returns
unfolding body_finds requested body_of
returns c =
    let a = c.args in
    let s = service_in a.apdu.now a.asked.wanted in
    let l = line_of a.ready.meter.line in
    named (body_of a.ready.meter.body)
    (λ n. record { client = a.client; invoke = a.asked.invoke; selective = selective_in a.client l; blocks = blocks_in a.client l; class = a.asked.class; name = n; service = s })
    (λ n. meaning a.client n (body_of a.ready.meter.body).store.registers)
    s _ c.name_in-name.ensures c.find-found.ensures (rw (c.is_selective.ensures, c.are_blocks_agreed.ensures) at c.find_in_wanted.ensures)
