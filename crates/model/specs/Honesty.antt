-- Statements that keep demand 3 honest: its premises are met by as many meters as they should be, and its exception covers
-- nothing but what documents 01 and 02 name. Proved in proofs/Honesty.
use Rattle.std.specs.Prelude.{◌≡◌, true, false, cond, ◌⊎◌, List, [], ◌∷◌, ℕ, suc, get_or}
use Rattle.model.specs.declared.Name.{Name}
use Rattle.model.specs.declared.Register.{Register}
use Rattle.model.specs.Names.{same_name, given, with_value, blank_register}
use Rattle.model.specs.State.{Line, Entry, Store, runs, Model, with_body, with_store, with_cells}
use Rattle.model.specs.Selecting.{Selection}
use Rattle.model.specs.Objects.{profile_named, get, Request, ask, go_on}
use Rattle.model.specs.Calls.{Lent, Call, frame, owner, OwnerCall, give_registers, set_value, set_columns, set_period, tick, set_p5, power_up, Wrap, serve, Protocol, step, trace}
use Rattle.model.specs.Demand3.{Chosen, hidden_call, Alike, AlikeCalls, any_chosen, reads}

-- The chosen values and the cells recorded from them, replaced by arbitrary numbers: v gives one for each register's place,
-- w for each row's and cell's, places counted from i and j.

abbrev pub replace_registers : Chosen → (v : ℕ → ℕ) → ℕ → List Register → List Register
replace_registers ch v i [] = []
replace_registers ch v i (r ∷ rs) = with_value (cond (ch r.name) (v i) r.value) r ∷ replace_registers ch v (suc i) rs

abbrev pub replace_cells : Chosen → (v : ℕ → ℕ) → ℕ → List Name → List ℕ → List ℕ
replace_cells ch v j cs [] = []
replace_cells ch v j [] (x ∷ xs) = x ∷ xs
replace_cells ch v j (c ∷ cs) (x ∷ xs) = cond (ch c) (v j) x ∷ replace_cells ch v (suc j) cs xs

abbrev pub replace_rows : Chosen → (w : ℕ → ℕ → ℕ) → ℕ → List Name → List Entry → List Entry
replace_rows ch w i cs [] = []
replace_rows ch w i cs (r ∷ rs) =
    with_cells (replace_cells ch (w i) 0 cs r.cells) r ∷ replace_rows ch w (suc i) cs rs

abbrev pub replace_store : Chosen → (v : ℕ → ℕ) → (w : ℕ → ℕ → ℕ) → Store → Store
replace_store ch v w s =
    record {
      registers = replace_registers ch v 0 s.registers;
      columns = s.columns;
      rows = replace_rows ch w 0 s.columns s.rows;
    }

abbrev pub replaced : Chosen → (v : ℕ → ℕ) → (w : ℕ → ℕ → ℕ) → Model → Model
replaced ch v w m = with_body (with_store (replace_store ch v w m.body.store) m.body) m

-- Every meter is alike to itself with those numbers replaced.
abbrev pub ReplacedAlike : Type 0
ReplacedAlike = (ch : Chosen) (v : ℕ → ℕ) (w : ℕ → ℕ → ℕ) (m : Model) → Alike ch m (replaced ch v w m)

-- And nothing else is alike: a meter that is alike to another is that other with those numbers replaced by its own.

abbrev pub value_at : Model → ℕ → ℕ
value_at m i = (get_or m.body.store.registers i blank_register).value

abbrev pub blank_entry : Entry
blank_entry = record { number = 0; clock = record { bytes = [] }; cells = [] }

abbrev pub cell_at : Model → ℕ → ℕ → ℕ
cell_at m i j = get_or (get_or m.body.store.rows i blank_entry).cells j 0

abbrev pub AlikeReplaced : Type 0
AlikeReplaced = (ch : Chosen) (m₁ m₂ : Model) → Alike ch m₁ m₂ → m₂ ≡ replaced ch (value_at m₂) (cell_at m₂) m₁

-- Calls that differ in arbitrary numbers given or set for chosen registers are alike.

abbrev pub replaced_owner : Chosen → (v : ℕ → ℕ) → OwnerCall → OwnerCall
replaced_owner ch v (give_registers rs) = give_registers (replace_registers ch v 0 rs)
replaced_owner ch v (set_value n x) = set_value n (cond (ch n) (v 0) x)
replaced_owner ch v (set_columns cs) = set_columns cs
replaced_owner ch v (set_period d) = set_period d
replaced_owner ch v (tick t) = tick t
replaced_owner ch v (set_p5 f) = set_p5 f
replaced_owner ch v power_up = power_up

abbrev pub replaced_call : Chosen → (v : ℕ → ℕ) → Call → Call
replaced_call ch v (frame a) = frame a
replaced_call ch v (owner o) = owner (replaced_owner ch v o)

abbrev pub ReplacedCallAlike : Type 0
ReplacedCallAlike = (ch : Chosen) (v : ℕ → ℕ) (c : Call) → hidden_call ch c ≡ hidden_call ch (replaced_call ch v c)

-- Where nothing is chosen, all outcomes are equal.
abbrev pub nothing : Chosen
nothing n = false

abbrev pub NothingChosen : Protocol → Type 0
NothingChosen p =
    (m₁ m₂ : Model) (cs₁ cs₂ : List Call)
    → Alike nothing m₁ m₂
    → AlikeCalls nothing cs₁ cs₂
    → trace p cs₁ m₁ ≡ trace p cs₂ m₂

-- Where no column is chosen, a request for the profile is answered by equal frames.
abbrev pub UnchosenProfile : Protocol → Type 0
UnchosenProfile p =
    (ch : Chosen) (m₁ m₂ : Model) (a : Lent) (q : Request) (w : Wrap) (l : Line)
    → Alike ch m₁ m₂
    → p.decide m₁.line a ≡ serve (ask q) w l
    → same_name profile_named q.name ≡ true
    → any_chosen ch m₁.body.store.columns ≡ false
    → (step p (frame a) m₁).sent ≡ (step p (frame a) m₂).sent

-- So is a numbered request.
abbrev pub UnchosenBlocks : Protocol → Type 0
UnchosenBlocks p =
    (ch : Chosen) (m₁ m₂ : Model) (a : Lent) (i n : ℕ) (w : Wrap) (l : Line)
    → Alike ch m₁ m₂
    → p.decide m₁.line a ≡ serve (go_on i n) w l
    → any_chosen ch m₁.body.store.columns ≡ false
    → (step p (frame a) m₁).sent ≡ (step p (frame a) m₂).sent

-- What counts as a read is a frame that comes to a GET of attribute 2: of the profile while a column is chosen, or of a
-- register that is given and chosen;
pub record ChosenRead (p : Protocol) (ch : Chosen) (c : Call) (m : Model) : Type 0 where
  pub lent : Lent
  pub request : Request
  pub wrap : Wrap
  pub line : Line
  pub selection : Selection
  pub call : c ≡ frame lent
  pub decided : p.decide m.line lent ≡ serve (ask request) wrap line
  pub service : request.service ≡ get 2 selection
  pub asked :
      ((same_name profile_named request.name ≡ true) × (any_chosen ch m.body.store.columns ≡ true))
      ⊎ ((given request.name m.body.store.registers ≡ true) × (ch request.name ≡ true))

-- or one that comes to a numbered request while a transfer runs and a column is chosen.
pub record ChosenBlock (p : Protocol) (ch : Chosen) (c : Call) (m : Model) : Type 0 where
  pub lent : Lent
  pub invoke : ℕ
  pub number : ℕ
  pub wrap : Wrap
  pub line : Line
  pub call : c ≡ frame lent
  pub decided : p.decide m.line lent ≡ serve (go_on invoke number) wrap line
  pub running : runs m.body.transfer ≡ true
  pub asked : any_chosen ch m.body.store.columns ≡ true

abbrev pub ReadsAreChosen : Protocol → Type 0
ReadsAreChosen p =
    (ch : Chosen) (c : Call) (m : Model) → reads p ch c m ≡ true → ChosenRead p ch c m ⊎ ChosenBlock p ch c m
