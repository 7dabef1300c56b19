-- What is told of a frame call (document 02, Q-2), and what the functions that find it out promise each other.
use Rattle.std.specs.Prelude.{◌≡◌, List, ℕ, ◌≤◌, length, Result, Ok, Err}
use Rattle.wire.specs.Reading.{part}
use Rattle.model.specs.declared.CipherClient.{CipherClient}
use Rattle.model.specs.declared.Client.{Client}
use Rattle.model.specs.declared.Client.TheVariants.{Verification, Ciphering}
use Rattle.model.specs.State.{Line, Model}
use Rattle.model.specs.Calls.{Lent}
use Rattle.material.specs.Material.{Keys}
use Rattle.envelope.specs.declared.Opening.{Opening}
use Rattle.call_tests.specs.declared.LineTest.{LineTest}
use Rattle.call_tests.specs.declared.LineTest.TheVariants.{TagNotPermitted}
use Rattle.call_tests.specs.Finding.{Finding}
use Rattle.call_tests.specs.Tests.{found}
use Rattle.call_tests.specs.Lines.{number_found, place_found}
use Rattle.call_tests.specs.Road.{fault, envelope_finds}
use Rattle.diagnosis.specs.declared.Explained.{Explained}

-- the number, the test and the place of what a call comes to
abbrev pub explained : Model → Lent → Explained
explained m a =
    record { refusal = number_found (found m a); finding = found m a; place = place_found (found m a) a.received }

-- Within the crate.

-- the client as one that ciphers
abbrev pub cipher_client : Client → Result CipherClient LineTest
cipher_client Verification = Err TagNotPermitted
cipher_client (Ciphering c) = Ok c

-- an envelope was opened into a room that now holds m, or fails a test
abbrev pub inside_finds : (m : List ℕ) → ((counter : ℕ) → (text : List ℕ) → Finding) → Result Opening LineTest → Finding
inside_finds m inside (Err t) = fault t
inside_finds m inside (Ok o) = inside o.counter (part 0 o.size m)

-- its text lies within the room
abbrev pub Within : (m : List ℕ) → Result Opening LineTest → Type 0
Within m (Err t) = Unit {0}
Within m (Ok o) = o.size ≤ length m

-- an envelope of the client, under these keys and with this tag
pub record OpensTo (l : Line) (c : CipherClient) (k : Keys) (tag : ℕ) (s m : List ℕ) (r : Result Opening LineTest) : Type 0 where
  pub finds : (inside : (counter : ℕ) → (text : List ℕ) → Finding) → envelope_finds l c k tag s inside ≡ inside_finds m inside r
  pub within : Within m r
