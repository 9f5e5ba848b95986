-- What a function returns if a `?` handed a fault on, by what is known of the conversion there.
use Rattle.std.proofs.{Common.{◌≡◌, ℕ, Result, Err, IfErr, IsErrAnd, arith}}
use Rattle.ports_core.specs.declared.fault.Fault.{Fault, TheVariants.Write}

pub handed_on : {T E : Type 0} (result : Result T E) (fault : E) → IsErrAnd result (λ given. given ≡ fault)
    → result ≡ Err fault
handed_on result fault handed = grind arith

-- a clause on the fault
pub fault_is : {T E : Type 0} (result : Result T E) (Q : E → Type 0) (fault : E)
    → IsErrAnd result (λ given. given ≡ fault) → Q fault → IfErr result Q
fault_is result Q fault handed q = grind arith

-- a clause on the whole result
pub result_is : {T E : Type 0} (P : Result T E → Type 0) (result : Result T E) (fault : E)
    → IsErrAnd result (λ given. given ≡ fault) → P (Err fault) → P result
result_is P result fault handed p = grind arith

-- the fault of a write that was cut at an output
pub of_write : {T : Type 0} (result : Result T Fault) (other slot : ℕ) → IsErrAnd result (λ given. given ≡ Write other)
    → other ≡ slot → IsErrAnd result (λ given. given ≡ Write slot)
of_write result other slot handed same = grind arith
