-- Demand 3: whoever is not granted a read of a register learns nothing of its value, over any list of calls. First what
-- its words mean, and the claim for every list of calls as the model runs it (`TraceDemand3`); last the claim itself
-- (`Demand3`), for any two runs of functions that keep their promises. `X → ⊥` reads "not X".
use Rattle.std.specs.Prelude.{◌≡◌, Bool, true, false, cond, ◌&&◌, ◌||◌, List, [], ◌∷◌, ◌++◌, map, ℕ, length, take, drop, eqb}
use Rattle.model.specs.declared.Name.{Name}
use Rattle.model.specs.declared.Register.{Register}
use Rattle.model.specs.Names.{same_name, given, with_value}
use Rattle.model.specs.State.{Entry, Store, runs, Body, Model, with_body, with_store, with_cells}
use Rattle.model.specs.Objects.{profile_named, Service, get, action, Inquiry, ask, go_on}
use Rattle.model.specs.Calls.{Call, frame, owner, OwnerCall, give_registers, set_value, set_columns, set_period, tick, set_p5, power_up, Outcome, Decision, answer, serve, Protocol, step, trace}

-- "Registers are chosen by name, whenever given."
abbrev pub Chosen : Type 0
Chosen = Name → Bool

-- Alike.

-- a value, or 0 in its stead
abbrev pub hide : Bool → ℕ → ℕ
hide true v = 0
hide false v = v

abbrev pub hide_register : Chosen → Register → Register
hide_register ch r = with_value (hide (ch r.name) r.value) r

-- "a cell is recorded from the register that its column names"; a cell without a column is recorded from none
abbrev pub hide_cells : Chosen → List Name → List ℕ → List ℕ
hide_cells ch cs [] = []
hide_cells ch [] (v ∷ vs) = v ∷ vs
hide_cells ch (c ∷ cs) (v ∷ vs) = hide (ch c) v ∷ hide_cells ch cs vs

abbrev pub hide_entry : Chosen → List Name → Entry → Entry
hide_entry ch cs r = with_cells (hide_cells ch cs r.cells) r

abbrev pub hide_store : Chosen → Store → Store
hide_store ch s =
    record {
      registers = map (hide_register ch) s.registers;
      columns = s.columns;
      rows = map (hide_entry ch s.columns) s.rows;
    }

abbrev pub hide_body : Chosen → Body → Body
hide_body ch b = with_store (hide_store ch b.store) b

-- the meter with 0 for the values of the chosen registers and the cells recorded from them
abbrev pub hidden : Chosen → Model → Model
hidden ch m = with_body (hide_body ch m.body) m

-- "alike": equal in all that a meter holds, but for those values and cells
abbrev pub Alike : Chosen → Model → Model → Type 0
Alike ch m₁ m₂ = hidden ch m₁ ≡ hidden ch m₂

-- a call with 0 for the values that it gives or sets for chosen registers

abbrev pub hidden_owner : Chosen → OwnerCall → OwnerCall
hidden_owner ch (give_registers rs) = give_registers (map (hide_register ch) rs)
hidden_owner ch (set_value n v) = set_value n (hide (ch n) v)
hidden_owner ch (set_columns cs) = set_columns cs
hidden_owner ch (set_period d) = set_period d
hidden_owner ch (tick t) = tick t
hidden_owner ch (set_p5 f) = set_p5 f
hidden_owner ch power_up = power_up

abbrev pub hidden_call : Chosen → Call → Call
hidden_call ch (frame a) = frame a
hidden_call ch (owner o) = owner (hidden_owner ch o)

-- "arguments are equal in both runs but for values given or set for chosen registers"
abbrev pub AlikeCalls : Chosen → List Call → List Call → Type 0
AlikeCalls ch cs₁ cs₂ = map (hidden_call ch) cs₁ ≡ map (hidden_call ch) cs₂

-- Granted reads.

abbrev pub any_chosen : Chosen → List Name → Bool
any_chosen ch [] = false
any_chosen ch (c ∷ cs) = ch c || any_chosen ch cs

-- "a value or profile is read by a GET of attribute 2": of a chosen register that is given, or of the profile while a
-- column names a chosen one. In a sound meter no register bears the name of an own object, so "the record number object is
-- none"; an unsound meter grants no read, since it answers 3.
abbrev pub asks_chosen : Chosen → Name → Service → Store → Bool
asks_chosen ch n (get a s) st =
    eqb a 2 && cond (same_name profile_named n) (any_chosen ch st.columns) (given n st.registers && ch n)
asks_chosen ch n (action k v) st = false

-- Document 02, Q-4: "All blocks of a granted read are part of that read in demand 3; a read whose transfer runs in a meter as first
-- handed in counts as granted." So a numbered request reads what the transfer that runs reads, which is the profile; its columns are
-- those of the first request, since other columns end the transfer.
abbrev pub inquires_chosen : Chosen → Inquiry → Body → Bool
inquires_chosen ch (ask q) b = asks_chosen ch q.name q.service b.store
inquires_chosen ch (go_on i n) b = runs b.transfer && any_chosen ch b.store.columns

-- a frame that comes to such a read; one that the line alone answers reads nothing
abbrev pub decides_read : Chosen → Decision → Body → Bool
decides_read ch (answer s) b = false
decides_read ch (serve q w l) b = inquires_chosen ch q b

-- the call is such a frame; no other call reads
abbrev pub reads : Protocol → Chosen → Call → Model → Bool
reads p ch (frame a) m = decides_read ch (p.decide m.line a) m.body
reads p ch (owner o) m = false

-- "a read is granted when its frame call answers 0"
abbrev pub GrantedRead : Protocol → Chosen → Call → Model → Outcome → Type 0
GrantedRead p ch c m o = (reads p ch c m ≡ true) × (o.refusal ≡ 0)

-- The claim.

-- One call in each of two runs.
pub record SameOutcome (p : Protocol) (ch : Chosen) (c : Call) (m : Model) (o₁ o₂ : Outcome) : Type 0 where
  -- "the same refusal number in both runs, or none in both"
  pub refusal : o₁.refusal ≡ o₂.refusal
  -- "equal in length all the same"
  pub size : length o₁.sent ≡ length o₂.sent
  -- "the same frame goes out, or none"; "only the answer to a granted read of such a value, or of a profile with such a
  -- column, may differ"
  pub sent : (GrantedRead p ch c m o₁ → ⊥) → o₁.sent ≡ o₂.sent
  -- "after each call the two meters are again alike but for those values and cells"
  pub next : Alike ch o₁.next o₂.next

-- Call by call, over all of the list and of both runs; the meter of a call is the one that the call before it handed back.
pub data SameOutcomes (p : Protocol) (ch : Chosen) : List Call → Model → List Outcome → List Outcome → Type 0 where
  none_same : {m : Model} → SameOutcomes p ch [] m [] []
  more_same :
      {c : Call} {cs : List Call} {m : Model} {o₁ o₂ : Outcome} {os₁ os₂ : List Outcome}
      → SameOutcome p ch c m o₁ o₂
      → SameOutcomes p ch cs o₁.next os₁ os₂
      → SameOutcomes p ch (c ∷ cs) m (o₁ ∷ os₁) (o₂ ∷ os₂)

-- demand 3 of the model itself, in the customer's words
abbrev pub TraceDemand3 : Protocol → Type 0
TraceDemand3 p =
    -- "choose any set of registers"
    (ch : Chosen)
    -- "any two meters, sound or not"
    → (m₁ m₂ : Model)
    -- "frame calls and owner's calls, refused ones included, as long as you like and in any order"
    → (cs₁ cs₂ : List Call)
    -- "alike but for the values of these registers and the cells recorded from them"
    → Alike ch m₁ m₂
    -- "give both the same list"; "only values written to those registers may differ"
    → AlikeCalls ch cs₁ cs₂
    -- "for every such list, each call then has .."
    → SameOutcomes p ch cs₁ m₁ (trace p cs₁ m₁) (trace p cs₂ m₂)

-- The same of functions, over the type of meters that they work on. `view` says what such a meter holds, as a `Model`.

module _ (Meter : Type 0) (view : Meter → Model) where
  -- What a call hands back: a refusal's number or 0, how many bytes of the reply room went out, the meter; and what the reply
  -- room held before and holds after. An owner's call has no reply room: both are empty.
  pub record Handed : Type 0 where
    pub refusal : ℕ
    pub count : ℕ
    pub meter : Meter
    pub before : List ℕ
    pub after : List ℕ

  -- What is handed back is what the outcome says; "reply bytes after the frame, or all of them where nothing goes out,
  -- keep their values".
  pub record Gave (o : Outcome) (h : Handed) : Type 0 where
    pub refusal : h.refusal ≡ o.refusal
    pub count : h.count ≡ length o.sent
    pub meter : view h.meter ≡ o.next
    pub room : h.after ≡ o.sent ++ drop (length o.sent) h.before

  -- what someone sees of it: the number, the bytes that went out, and what the meter then holds
  abbrev pub seen : Handed → Outcome
  seen h = record { refusal = h.refusal; sent = take h.count h.after; next = view h.meter }

  -- what the function behind a call promises of what it hands back: this is its `ensures`
  abbrev pub Promised : Protocol → Call → Meter → Handed → Type 0
  Promised p c m h = Gave (step p c (view m)) h

  -- a list of calls is run, and this is handed back: "each call gets the meter that the last one handed back"
  pub data Run (p : Protocol) : Meter → List Call → List Handed → Type 0 where
    none_run : {m : Meter} → Run p m [] []
    more_run :
        {m : Meter} {c : Call} {cs : List Call} {h : Handed} {hs : List Handed}
        → Promised p c m h
        → Run p h.meter cs hs
        → Run p m (c ∷ cs) (h ∷ hs)

  -- every run has the numbers, the bytes and the meters of the model's trace, call by call
  abbrev pub RunIsTrace : Protocol → Type 0
  RunIsTrace p = (m : Meter) (cs : List Call) (hs : List Handed) → Run p m cs hs → map seen hs ≡ trace p cs (view m)

  -- demand 3, in the customer's words
  abbrev pub Demand3 : Protocol → Type 0
  Demand3 p =
      -- "choose any set of registers"
      (ch : Chosen)
      -- "any two meters, sound or not"
      → (m₁ m₂ : Meter)
      -- "frame calls and owner's calls, refused ones included, as long as you like and in any order"
      → (cs₁ cs₂ : List Call)
      -- whatever the calls hand back, and whatever "reply rooms held before", in each run
      → (hs₁ hs₂ : List Handed)
      -- "alike but for the values of these registers and the cells recorded from them"
      → Alike ch (view m₁) (view m₂)
      -- "give both the same list"; "only values written to those registers may differ"
      → AlikeCalls ch cs₁ cs₂
      -- "each call gets the meter that the last one handed back"
      → Run p m₁ cs₁ hs₁
      → Run p m₂ cs₂ hs₂
      -- "for every such list, each call then has .."
      → SameOutcomes p ch cs₁ (view m₁) (map seen hs₁) (map seen hs₂)
