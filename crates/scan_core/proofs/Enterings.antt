-- The nodes at the numbers of a code, and what they lead to.
use Rattle.std.proofs.{
  Common.{rules, ◌≡◌, ◌⊎◌, ◌↔◌, inl, inr, ℕ, zero, suc, ◌+◌, ◌<◌, ◌≤◌, Bool, true, false, IsTrue, List, [], ◌∷◌, length},
  Common.{get_or, refl, sym, ◌∙◌, arith, ◌-◌, ◌++◌},
  lemmas.{Bool.false≢true, Grind.common_steps},
}
use Rattle.bre_core.specs.{Match.Parts, ByteSet.has}
use Rattle.scan_core.specs.{
  declared.{
    node.Node.{Node, TheVariants.{Take, First, Last, Choose, Back}},
    branch.{Branch.Branch, When.TheVariants.{Never, AtFront, AtEnd, Always}},
  },
  Code.{At, weight_of, weight},
  Sets.{weight_if, positions_among},
  inner.{Sets.{LeadsOn, Flows, IsCode, StepsBy}, Branches.{IsBranch, Opens}, Each.AreEach},
}

pub weight_most : (node : Node) → weight_of node ≤ 1
weight_most (Take bytes) = omega arith
weight_most First = omega arith
weight_most Last = omega arith
weight_most (Choose skip) = omega arith
weight_most (Back by) = omega arith

weight_if_most : (mark : Bool) (weight : ℕ) → weight_if mark weight ≤ weight
weight_if_most true weight = omega arith
weight_if_most false weight = omega arith

pub positions_most : (code : List Node) (marks : List Bool) → positions_among code marks ≤ weight code + 1
positions_most code [] = omega arith
positions_most [] (mark ∷ marks) = omega (arith, weight_if_most mark 1)
positions_most (node ∷ code) (mark ∷ marks) = omega (arith, weight_if_most mark (weight_of node), positions_most code marks)

pub at_index : (code : List Node) (n : ℕ) (d : Node) → n < length code → At code n (get_or code n d)
at_index [] n d h = absurd (omega arith)
at_index (x ∷ code) zero d h = refl
at_index (x ∷ code) (suc n) d h = at_index code n d (omega arith)

pub at_once : (code : List Node) (n : ℕ) {one other : Node} → At code n one → At code n other → one ≡ other
at_once [] n f g = absurd f
at_once (x ∷ code) zero f g = f ∙ sym g
at_once (x ∷ code) (suc n) f g = at_once code n f g

pub at_least : (code : List Node) (n : ℕ) (node : Node) → At code n node → n < length code
at_least [] n node h = absurd h
at_least (x ∷ code) zero node h = omega arith
at_least (x ∷ code) (suc n) node h = omega (arith, at_least code n node h)

-- what leads on without a place's help leads on anywhere
leads_anywhere : (node : Node) (at_first at_last : Bool) (from to : ℕ) → LeadsOn node false false from to
    → LeadsOn node at_first at_last from to
leads_anywhere (Take bytes) at_first at_last from to h = h
leads_anywhere First at_first at_last from to h = absurd (false≢true h.0)
leads_anywhere Last at_first at_last from to h = absurd (false≢true h.0)
leads_anywhere (Choose skip) at_first at_last from to h = h
leads_anywhere (Back by) at_first at_last from to h = h

pub parts_anywhere : (code : List Node) (at_first at_last : Bool) (count from to : ℕ)
    → Parts (Flows code false false) count from to → Parts (Flows code at_first at_last) count from to
parts_anywhere code at_first at_last zero from to p = p
parts_anywhere code at_first at_last (suc count) from to p = (p.0, parts_anywhere code at_first at_last count from p.0 p.1, (p.2.0, p.2.1, leads_anywhere p.2.0 at_first at_last p.0 to p.2.2))

-- what a known node leads to
pub flows_of : (code : List Node) {n : ℕ} (node : Node) {at_first at_last : Bool} {to : ℕ} → At code n node
    → Flows code at_first at_last n to → LeadsOn node at_first at_last n to
flows_of code {n} node here f = rw (at_once _ n f.1 here) at f.2

pub node_here : (code : List Node) {n : ℕ} {node read : Node} → n < length code → read ≡ node
    → read ≡ get_or code n read → At code n node
node_here code {n} {read} h e is = rw (sym is ∙ e) at (at_index code n read h)

pub target_in : {code : List Node} (n skip : ℕ) → IsCode code → At code n (Choose skip) → n + skip ≤ length code
target_in n skip c here = c.fits n (Choose skip) here

pub pass_found : (code : List Node) (n : ℕ) {byte to : ℕ} (bytes : List Bool) → At code n (Take bytes)
    → StepsBy code byte n to → IsTrue (has bytes byte)
pass_found code n bytes here p = search (rules, at_once)

pub pass_least : (code : List Node) {n byte to : ℕ} → StepsBy code byte n to → n < length code
pass_least code {n} p = at_least _ n _ p.1

pub weight_length : (code : List Node) → weight code ≤ length code
weight_length [] = omega arith
weight_length (node ∷ code) = omega (arith, weight_most node, weight_length code)

-- Where the numbers of a code lead without a byte.

pub way_nowhere : {code : List Node} {number : ℕ} → length code ≤ number
    → IsBranch code number (record { when = Never; one = 0; other = 0 })
way_nowhere h = search (rules, at_least)

-- where a node leads
abbrev pub way_at : Node → ℕ → Branch
way_at (Take bytes) number = record { when = Never; one = 0; other = 0 }
way_at First number = record { when = AtFront; one = number + 1; other = number + 1 }
way_at Last number = record { when = AtEnd; one = number + 1; other = number + 1 }
way_at (Choose skip) number = record { when = Always; one = number + 1; other = number + skip }
way_at (Back by) number = record { when = Always; one = number - by; other = number - by }

one_of : {A : Type 0} → A ⊎ A → A
one_of (inl a) = a
one_of (inr a) = a

pub way_is : {code : List Node} {number : ℕ} (node : Node) → IsCode code → At code number node
    → IsBranch code number (way_at node number)
way_is (Take bytes) c here = record {
  one = omega arith;
  other = omega arith;
  exact =
      λ at_first at_last to. (λ f. absurd (flows_of _ _ here f), λ o. absurd o.0);
}
way_is {code} First c here = let l = at_least code _ First here in record {
  one = omega arith;
  other = omega arith;
  exact = λ at_first at_last to. (λ f. let w = flows_of code First here f in (w.0, inl w.1), λ o. (First, here, (o.0, one_of o.1)));
}
way_is {code} Last c here = let l = at_least code _ Last here in record {
  one = omega arith;
  other = omega arith;
  exact = λ at_first at_last to. (λ f. let w = flows_of code Last here f in (w.0, inl w.1), λ o. (Last, here, (o.0, one_of o.1)));
}
way_is {code} {number} (Choose skip) c here = record {
  one = omega (arith, at_least code number (Choose skip) here);
  other = c.fits number (Choose skip) here;
  exact = λ at_first at_last to. (λ f. (tt, flows_of code (Choose skip) here f), λ o. (Choose skip, here, o.1));
}
way_is {code} {number} (Back by) c here = let b : by ≤ number = c.fits number (Back by) here in let l = at_least code number (Back by) here in record {
  one = omega arith;
  other = omega arith;
  exact = λ at_first at_last to. (λ f. (tt, inl (omega (arith, flows_of code (Back by) here f))), λ o. (Back by, here, omega (arith, one_of o.1)));
}

-- what is so of both is so of all that is led to
pub led_by : {code : List Node} {number : ℕ} {branch : Branch} {at_first at_last : Bool} {to : ℕ} (So : ℕ → Type 0)
    → IsBranch code number branch → So branch.one → So branch.other → Flows code at_first at_last number to → So to
led_by {at_first} {at_last} {to} So w one other f = elim ((w.exact at_first at_last to).0 f).1 [ inl e ↦ rw e one | inr e ↦ rw e other ]

-- a branch that isn't open leads nowhere
pub never_led : {code : List Node} {number to : ℕ} {branch : Branch} {at_first at_last opens : Bool}
    → IsBranch code number branch → (IsTrue opens ↔ Opens branch.when at_first at_last) → opens ≡ false
    → Flows code at_first at_last number to → ⊥
never_led {to = to} {at_first = at_first} {at_last = at_last} w o closed f = false≢true (sym closed ∙ o.1 ((w.exact at_first at_last to).0 f).0)

-- Lists of which each entry is what its place asks for.

module _ {A : Type 0} {none : A} {Is : ℕ → A → Type 0} {count : ℕ} {list : List A} where
  -- one entry more
  pub each_more : {new : List A} {entry : A} → AreEach none Is count list → Is count entry → new ≡ list ++ entry ∷ []
      → AreEach none Is (count + 1) new
  each_more a is e = grind (arith, common_steps)

  pub each_to : {all : ℕ} → AreEach none Is count list → count ≡ all → AreEach none Is all list
  each_to a e = rw e at a

  pub each_by : {Other : ℕ → A → Type 0} → AreEach none Is count list
      → ((place : ℕ) (entry : A) → place < count → Is place entry → Other place entry) → AreEach none Other count list
  each_by a there = search rules
