-- What an AARQ, and an opened initiate request, tell where they are accepted; and that those that are written as specs/ lays
-- them out are accepted, whatever their free bytes.
use mathlib.Core.Path.{◌≡◌, refl, sym, ap}
use mathlib.Core.Bool.{Bool, true, false, cond}
use mathlib.Core.List.{List, [], ◌∷◌}
use Prim.Native.Nat.{ℕ, ◌≤◌}
use native.Mathlib.Omega.{arith}
use lib.ListN.{length, take, drop}
use Rattle.wire.specs.Numbers.{number_high}
use Rattle.wire.proofs.ReadingLaws.{chosen, none_never}
use Rattle.model.specs.declared.Client.{Client}
use Rattle.model.specs.Limits.{longest_sent, least_size}
use Rattle.acse.specs.Clients.{ciphers}
use Rattle.acse.specs.Pieces.{number, is_laid}
use Rattle.acse.specs.Initiate.{request_end, keyed_request, read_request}
use Rattle.acse.specs.Aarq.{plain_aarq, ciphered_aarq, read_aarq}
use Rattle.acse.specs.declared.Aarq.TheVariants.{Plain, Ciphered}
use Rattle.acse.specs.declared.InitiateRequest.{InitiateRequest}
use Rattle.std.specs.Prelude.{Some, None}
use Rattle.acse.proofs.LaidLaws.{written, laid_told, laid_written, written_there}
use Rattle.acse.proofs.Layouts.{length_context, length_mechanism, plain_size, plain_services, ciphered_size, ciphered_challenge, ciphered_envelope}

-- An accepted AARQ of a client that does not cipher: `services` is the place of the proposed services.
pub record ReadPlain (s : List ℕ) (client : Client) (title : List ℕ) (services : ℕ) : Type 0 where
  pub plain : ciphers client ≡ false
  pub place : services ≡ 47
  pub long : length s ≡ 52
  pub held : take 8 (drop 17 s) ≡ title
  pub enough : least_size longest_sent ≤ number_high (take 2 (drop 50 s))

-- An AARQ of a client that ciphers, right up to its envelope: the places of the challenge, and of the envelope of 50 bytes.
pub record ReadCiphered (s : List ℕ) (client : Client) (title : List ℕ) (challenge envelope : ℕ) : Type 0 where
  pub ciphered : ciphers client ≡ true
  pub challenge_place : challenge ≡ 42
  pub envelope_place : envelope ≡ 54
  pub long : length s ≡ 104
  pub held : take 8 (drop 17 s) ≡ title

-- An accepted initiate request of a client that ciphers: the places of its dedicated key and of the proposed services.
pub record ReadKeyed (s : List ℕ) (key services : ℕ) : Type 0 where
  pub key_place : key ≡ 3
  pub services_place : services ≡ 26
  pub long : length s ≡ 31
  pub enough : least_size longest_sent ≤ number_high (take 2 (drop 29 s))

-- the two kinds are two

ciphered_plain : {c e p : ℕ} → Some (Ciphered c e) ≡ Some (Plain p) → ⊥
ciphered_plain {c} {e} {p} q = let z : ◌≡◌ {A = ℕ} 0 1 = cc in omega arith

module _ (s : List ℕ) (client : Client) (title : List ℕ) (eight : length title ≡ 8) where
  pub plain_told : {services : ℕ} → read_aarq s client title ≡ Some (Plain services) → ReadPlain s client title services
  unfolding read_aarq
  plain_told {services} q = by (ciphers client) refl q
    where
      by : (b : Bool) → ciphers client ≡ b → cond b (cond (is_laid (ciphered_aarq client title) s 0) (Some (Ciphered 42 54)) None) (cond (is_laid (plain_aarq client title) s 0) (Some (Plain 47)) None) ≡ Some (Plain services) → ReadPlain s client title services
      by true g h =
          let t = chosen (is_laid (ciphered_aarq client title) s 0) h none_never in
          absurd (ciphered_plain t.1)
      by false g h =
          let t = chosen (is_laid (plain_aarq client title) s 0) h none_never in
          let r = laid_told (plain_aarq client title) s 0 t.0 in
          let e = rw (length_context client, length_mechanism client, eight) at r.1 in
          let p = t.1 in
          record {
            plain = g;
            place = (cc);
            long = omega (arith, r.0, plain_size client title eight);
            held = e.1.1.1.1.0;
            enough = e.1.1.1.1.1.1.1.1.1.1.1.1.1.0;
          }

  pub ciphered_told : {challenge envelope : ℕ} → read_aarq s client title ≡ Some (Ciphered challenge envelope) → ReadCiphered s client title challenge envelope
  unfolding read_aarq
  ciphered_told {challenge} {envelope} q = by (ciphers client) refl q
    where
      by : (b : Bool) → ciphers client ≡ b → cond b (cond (is_laid (ciphered_aarq client title) s 0) (Some (Ciphered 42 54)) None) (cond (is_laid (plain_aarq client title) s 0) (Some (Plain 47)) None) ≡ Some (Ciphered challenge envelope) → ReadCiphered s client title challenge envelope
      by false g h =
          let t = chosen (is_laid (plain_aarq client title) s 0) h none_never in
          absurd (ciphered_plain (sym t.1))
      by true g h =
          let t = chosen (is_laid (ciphered_aarq client title) s 0) h none_never in
          let r = laid_told (ciphered_aarq client title) s 0 t.0 in
          let e = rw (length_context client, eight) at r.1.1.1.1.1.0 in
          let p = t.1 in
          record {
            ciphered = g;
            challenge_place = (cc);
            envelope_place = (cc);
            long = omega (arith, r.0, ciphered_size client title eight);
            held = e;
          }

pub keyed_told : (s : List ℕ) {key services : ℕ} → read_request s ≡ Some (record { key = key; services = services }) → ReadKeyed s key services
unfolding read_request
keyed_told s {key} {services} q =
    let t = chosen (is_laid keyed_request s 0) q none_never in
    let r = laid_told keyed_request s 0 t.0 in
    let p = t.1 in
    let e : ◌≡◌ {A = InitiateRequest} (record { key = 3; services = 26 }) (record { key = key; services = services }) = cc in
    record {
      key_place = sym (ap (λ (x : InitiateRequest). x.key) e);
      services_place = sym (ap (λ (x : InitiateRequest). x.services) e);
      long = r.0;
      enough = r.1.1.1.1.1.1.1.0;
    }

-- What is laid out so is accepted.

pub plain_accepted : (client : Client) (title services size : List ℕ) → ciphers client ≡ false → length services ≡ 3 → length size ≡ 2 → least_size longest_sent ≤ number_high size → read_aarq (written (plain_aarq client title) (services ∷ size ∷ [])) client title ≡ Some (Plain 47)
unfolding read_aarq
plain_accepted client title services size g h k l =
    rw (g, laid_written (plain_aarq client title) (services ∷ size ∷ []) (h, ((k, l), tt)))

pub ciphered_accepted_lem : (client : Client) (title challenge envelope : List ℕ) → ciphers client ≡ true → length challenge ≡ 8 → length envelope ≡ 50 → read_aarq (written (ciphered_aarq client title) (challenge ∷ envelope ∷ [])) client title ≡ Some (Ciphered 42 54)
unfolding read_aarq
ciphered_accepted_lem client title challenge envelope g h k =
    rw (g, laid_written (ciphered_aarq client title) (challenge ∷ envelope ∷ []) (h, (k, tt)))

pub keyed_accepted : (key services size : List ℕ) → length key ≡ 16 → length services ≡ 3 → length size ≡ 2 → least_size longest_sent ≤ number_high size → read_request (written keyed_request (key ∷ services ∷ size ∷ [])) ≡ Some (record { key = 3; services = 26 })
unfolding read_request
keyed_accepted key services size g h k l =
    rw (laid_written keyed_request (key ∷ services ∷ size ∷ []) (g, (h, ((k, l), tt))))

-- Their free bytes stand at the places that are told.

pub services_there : (client : Client) (title services size : List ℕ) → length title ≡ 8 → length services ≡ 3 → take 3 (drop 47 (written (plain_aarq client title) (services ∷ size ∷ []))) ≡ services
services_there client title services size h k =
    rw (k, plain_services client title h) at (written_there (take 12 (plain_aarq client title)) (number 2 (least_size longest_sent) ∷ []) [] services (size ∷ []) 3 tt)

pub challenge_there : (client : Client) (title challenge envelope : List ℕ) → length title ≡ 8 → length challenge ≡ 8 → take 8 (drop 42 (written (ciphered_aarq client title) (challenge ∷ envelope ∷ []))) ≡ challenge
challenge_there client title challenge envelope h k =
    rw (k, ciphered_challenge client title h) at (written_there (take 9 (ciphered_aarq client title)) (drop 10 (ciphered_aarq client title)) [] challenge (envelope ∷ []) 8 tt)

pub envelope_there : (client : Client) (title challenge envelope : List ℕ) → length title ≡ 8 → length challenge ≡ 8 → length envelope ≡ 50 → take 50 (drop 54 (written (ciphered_aarq client title) (challenge ∷ envelope ∷ []))) ≡ envelope
envelope_there client title challenge envelope h k l =
    rw (l, ciphered_envelope client title h) at (written_there (take 11 (ciphered_aarq client title)) [] (challenge ∷ []) envelope [] 50 (k, tt))

pub key_there : (key services size : List ℕ) → length key ≡ 16 → take 16 (drop 3 (written keyed_request (key ∷ services ∷ size ∷ []))) ≡ key
key_there key services size h =
    rw h at (written_there (take 2 keyed_request) request_end [] key (services ∷ size ∷ []) 16 tt)

pub keyed_services_there : (key services size : List ℕ) → length key ≡ 16 → length services ≡ 3 → take 3 (drop 26 (written keyed_request (key ∷ services ∷ size ∷ []))) ≡ services
keyed_services_there key services size h k =
    rw k at (written_there (take 5 keyed_request) (number 2 (least_size longest_sent) ∷ []) (key ∷ []) services (size ∷ []) 3 (h, tt))
