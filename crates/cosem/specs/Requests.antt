-- GET and ACTION requests, plain (document 01, "Objects and rows"; Get-Request-Normal and Action-Request-Normal of the Green
-- Book), and the model's request that each is; and the numbered request for a block (document 02, Q-4; Get-Request-Next). What it
-- comes to is the model's. A reader finds none where the APDU is malformed. The places of the fields:
--
--        0  tag and choice: C0 01 for GET, C3 01 for ACTION
--        2  invoke byte
--        3  class, two bytes
--        5  name, six bytes
--       11  attribute or method
--       12  00, where the request ends; or 01, and then
--   GET 13  selector             ACTION 13  value, to the end
--       14  value, to the end
--
--        0  C0 02, for the next block
--        2  invoke byte
--        3  the number of the block received last, four bytes, to the end
use Rattle.std.specs.Prelude.{Bool, true, false, cond, List, [], ◌∷◌, ℕ, ◌+◌, ◌*◌, eqb, length, drop, get_or, Option, Some, None}
use Rattle.wire.specs.Reading.{expected, filled, number_at, then_at, then_field}
use Rattle.axdr.specs.Values.{value_end}
use Rattle.model.specs.declared.Client.{Client}
use Rattle.model.specs.declared.Name.{Name}
use Rattle.model.specs.Selecting.{all, selected}
use Rattle.model.specs.Objects.{Request, Service, get, action, absent, present}
use Rattle.cosem.specs.declared.ServiceKind.{ServiceKind}
use Rattle.cosem.specs.declared.ServiceKind.TheVariants.{Get, Set, Action}
use Rattle.cosem.specs.declared.Wanted.{Wanted}
use Rattle.cosem.specs.declared.Wanted.TheVariants.{Read, ReadSelected, Invoke, InvokeWith}
use Rattle.cosem.specs.declared.Asked.{Asked}
use Rattle.cosem.specs.declared.Reading.{Reading}
use Rattle.cosem.specs.declared.Reading.TheVariants.{Asks, GoesOn}

-- tag and choice
abbrev pub get_normal : List ℕ
get_normal = 0xC0 ∷ 0x01 ∷ []

abbrev pub get_next : List ℕ
get_next = 0xC0 ∷ 0x02 ∷ []

abbrev pub action_normal : List ℕ
action_normal = 0xC3 ∷ 0x01 ∷ []

-- the byte at a place; 0 past the end
abbrev pub byte : List ℕ → ℕ → ℕ
byte s at = get_or s at 0

-- "Names are six bytes"; zeros where the APDU is too short for one
unfoldable pub name_in : List ℕ → Name
name_in s = record { bytes = filled s 5 (0 ∷ 0 ∷ 0 ∷ 0 ∷ 0 ∷ 0 ∷ []) }

-- a request that wants this, with the invoke byte and the class of the APDU
abbrev pub asked_in : List ℕ → Wanted → Asked
asked_in s w = record { invoke = byte s 2; class = byte s 3 * 256 + byte s 4; wanted = w }

abbrev pub asking : List ℕ → Wanted → Option Reading
asking s w = Some (Asks (asked_in s w))

-- by the presence byte: 00, where the APDU ends after it; or 01
abbrev pub part_by : List ℕ → (presence next : ℕ) → Option Bool
part_by s presence next =
    cond (eqb presence 0x00) (cond (eqb next (length s)) (Some false) None) (cond (eqb presence 0x01) (Some true) None)

-- whether the optional part of a request of this tag and choice is there: its selector and value, or its parameter. None
-- where an APDU is no such request
unfoldable pub optional_part : List ℕ → List ℕ → Option Bool
optional_part choice s = then_at (expected s 0 choice) None (λ next. then_field (number_at 1 s 12) None (part_by s))

-- "one whole value", with which the APDU ends
unfoldable pub last_value : List ℕ → ℕ → Bool
last_value s at = then_at (value_end s at) false (λ e. eqb e (length s))

-- a request that wants this, where its value is whole
abbrev pub asking_with : List ℕ → ℕ → Wanted → Option Reading
asking_with s at w = cond (last_value s at) (asking s w) None

-- a GET request, by its optional part
abbrev pub get_with : List ℕ → Option Bool → Option Reading
get_with s (Some false) = asking s (Read (byte s 11))
get_with s (Some true) = asking_with s 14 (ReadSelected (byte s 11) (byte s 13) 14)
get_with s None = None

unfoldable pub read_get : List ℕ → Option Reading
read_get s = get_with s (optional_part get_normal s)

-- a request for the next block: it ends with the number
unfoldable pub read_next : List ℕ → Option Reading
read_next s =
    then_at (expected s 0 get_next) None (λ at.
    then_field (number_at 4 s 3) None (λ number next. cond (eqb next (length s)) (Some (GoesOn (byte s 2) number)) None))

-- a request with the tag of GET, by its choice
unfoldable pub read_gets : List ℕ → Option Reading
read_gets s = cond (eqb (byte s 1) 0x02) (read_next s) (read_get s)

-- an ACTION request, by its optional part
abbrev pub action_with : List ℕ → Option Bool → Option Reading
action_with s (Some false) = asking s (Invoke (byte s 11))
action_with s (Some true) = asking_with s 13 (InvokeWith (byte s 11) 13)
action_with s None = None

unfoldable pub read_action : List ℕ → Option Reading
read_action s = action_with s (optional_part action_normal s)

-- a request of this service. Nothing here is a SET: no client may send one
abbrev pub read_service : ServiceKind → List ℕ → Option Reading
read_service Get s = read_gets s
read_service Set s = None
read_service Action s = read_action s

-- The model's request.

-- what is wanted, with the bytes of the value from the APDU
abbrev pub service_in : List ℕ → Wanted → Service
service_in s (Read a) = get a all
service_in s (ReadSelected a selector at) = get a (selected selector (drop at s))
service_in s (Invoke k) = action k absent
service_in s (InvokeWith k at) = action k (present (drop at s))

-- the request that a client made with this APDU, selective access and block transfer being agreed or not
unfoldable pub requested : Client → (selective blocks : Bool) → List ℕ → Asked → Request
requested c selective blocks s q =
    record {
      client = c;
      invoke = q.invoke;
      selective = selective;
      blocks = blocks;
      class = q.class;
      name = name_in s;
      service = service_in s q.wanted;
    }
