-- Sets of instructions, as one mark an instruction, that the parts of a split may take.
use Rattle.std.specs.Prelude.{◌≡◌, ◌⊎◌, ℕ, ◌<◌, Bool, true, false, List, [], ◌∷◌, slice_get, Some}
use Rattle.std.specs.Prelude.{slice_index_or, length, IsTrue}
use Rattle.flat_ir.specs.declared.program.ValueId.{ValueId}
use Rattle.flat_ir.specs.Program.{Program, Step, operands}
use Rattle.flat_ir.specs.Guards.{guards_write}
use Rattle.flat_ir.specs.Kinds.{needed, fits_switch, is_mutable_look, is_field}

-- one of these values is a result of instruction j
abbrev pub Reads : List ValueId → ℕ → Type 0
Reads [] j = ⊥
Reads (v ∷ vs) j = (v.instruction ≡ j) ⊎ Reads vs j

-- instruction i of the program is this one
abbrev pub IsAt : Program → ℕ → Step → Type 0
IsAt f i one = slice_get f.code i ≡ Some one

-- a result of instruction j decides whether a write takes effect
pub record IsGuard (f : Program) (j : ℕ) : Type 0 where
  pub value : ValueId
  pub own : value.instruction ≡ j
  pub guards : guards_write f value ≡ true

-- instruction i is in the set
abbrev pub IsMarked : List Bool → ℕ → Type 0
IsMarked marks i = slice_index_or marks i false ≡ true

-- each member of one set is one of the other
abbrev pub IsWithin : List Bool → List Bool → Type 0
IsWithin marks others = (i : ℕ) → IsMarked marks i → IsMarked others i

-- each member is an instruction of which this holds
abbrev pub EachIs : Program → List Bool → (Step → Type 0) → Type 0
EachIs f marks P = (i : ℕ) → IsMarked marks i → (one : Step) × IsAt f i one × P one

-- preprocessing computes only what the switch can
abbrev pub IsOfSwitch : Program → List Bool → Type 0
IsOfSwitch f pre = EachIs f pre (λ one. IsTrue (fits_switch one))

-- preprocessing has each operand of what it computes; the two sides of a select don't count
abbrev pub HasNeeds : Program → List Bool → Type 0
HasNeeds f pre = (i j : ℕ) (one : Step) → IsMarked pre i → IsAt f i one → Reads (needed one.work) j → IsMarked pre j

-- nothing carried is a look of rows that can change
abbrev pub HasNoMutableLook : Program → List Bool → Type 0
HasNoMutableLook f marks = EachIs f marks (λ one. is_mutable_look f one.work ≡ false)

-- each operand of what is carried is carried
abbrev pub HasOperands : Program → List Bool → Type 0
HasOperands f carried = (i j : ℕ) (one : Step) → IsMarked carried i → IsAt f i one → Reads (operands one.work) j
    → IsMarked carried j

-- postprocessing computes only what the switch can, and neither a field nor a look of rows that can change
abbrev pub IsOfPost : Program → List Bool → Type 0
IsOfPost f post =
    EachIs f post (λ one. IsTrue (fits_switch one) × (is_mutable_look f one.work ≡ false) × (is_field one.work ≡ false))

-- what reads a value of postprocessing is carried, or is of postprocessing itself
abbrev pub HasReaders : Program → List Bool → List Bool → Type 0
HasReaders f carried post =
    (u j : ℕ) (one : Step) → IsMarked post j → IsAt f u one → Reads (operands one.work) j
    → slice_index_or carried u false ≡ false → IsMarked post u

-- a set that is closed for preprocessing, among the instructions below k
pub record IsPreClosed (f : Program) (k : ℕ) (pre : List Bool) : Type 0 where
  pub below : (i : ℕ) → IsMarked pre i → i < k
  pub kinds : IsOfSwitch f pre
  pub needs : HasNeeds f pre

-- a set that is closed for what preprocessing hands up
pub record IsCarriedClosed (f : Program) (pre carried : List Bool) : Type 0 where
  pub within : IsWithin carried pre
  pub looks : HasNoMutableLook f carried
  pub operands : HasOperands f carried

-- a set that is closed for postprocessing beside what is carried
pub record IsPostClosed (f : Program) (carried post : List Bool) : Type 0 where
  pub apart : (i : ℕ) → IsMarked post i → slice_index_or carried i false ≡ false
  pub kinds : IsOfPost f post
  pub readers : HasReaders f carried post
  pub guards : (i : ℕ) → IsMarked post i → IsGuard f i → ⊥

-- a set of one mark an instruction that has this property, and in which each set with it lies
pub record IsGreatest (f : Program) (P : List Bool → Type 0) (marks : List Bool) : Type 0 where
  pub count : length marks ≡ length f.code
  pub closed : P marks
  pub greatest : (others : List Bool) → P others → IsWithin others marks
