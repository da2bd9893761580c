-- Where the struct of each block variable is laid out, no rule on layout is broken.
use Rattle.std.proofs.Common.{◌≡◌, ◌<◌, ◌≤◌, ◌+◌, ◌==◌, ◌&&◌, ℕ, Bool, true, false, cond, List, Option, Some, None, IfSome, is_some, length, get_or, take, slice_index, refl, sym, ap, subst, ◌∙◌, inl, inr, arith}
use Rattle.std.specs.Prelude.{IsSome, IsSomeAnd, option_and_then}
use Rattle.std.specs.List.{All}
use Rattle.std.specs.Ordering.{nat_cmp, is_eq}
use Rattle.std.proofs.lemmas.List.{take_all}
use Rattle.std.proofs.lemmas.List.Elements.{All-contains, All-more}
use Rattle.std.proofs.lemmas.Bool.Decides.{eqb_tells, nat_tests}
use Rattle.std.proofs.lemmas.Bool.{and_parts}
use Rattle.std.proofs.lemmas.Option.{same_Some}
use Rattle.spv_words.specs.declared.rule.Rule.{Rule}
use Rattle.spv_ops.specs.Enumerants.{class_number}
use Rattle.spv_ops.specs.Opcode.{is}
use Rattle.spv_ops.specs.declared.Op.TheVariants as code
use Rattle.spv_ops.specs.declared.StorageClass.TheVariants as storage
use Rattle.spv_module.specs.Held.{global}
use Rattle.spv_module.specs.State.{ModuleState}
use Rattle.spv_module.specs.declared.inst.Inst.{Inst}
use Rattle.spv_index.specs.Pointers.{pointee}
use Rattle.layout_rules.specs.Blocks.{Broken as BreaksLayout, is_block_class, as_struct, block_of, BreaksAt, IsBrokenBy, IsBlockVariable}
use Rattle.buffer_layout.specs.Plan.{IsUnbroken}
use Rattle.profile_rules.proofs.Globals.{found_global}
use Rattle.profile_check.specs.Layouts.{struct_by, struct_in, BlockBreaks, IsLaidOut, AreJudged, IsLaidOutAt, AreLaidOut}

-- the struct that a block variable points to
pointed : (b : Bool) (o : Option ℕ) (gs : List Inst) (block : Inst) → cond b (option_and_then as_struct (option_and_then (global gs) o)) None ≡ Some block → (b ≡ true) × ((p : ℕ) × (o ≡ Some p) × (option_and_then as_struct (global gs p) ≡ Some block))
pointed true None gs block e = cc
pointed true (Some p) gs block e = (refl, (p, refl, e))
pointed false o gs block e = cc

-- a variable of a class, with its block
struct_at : (gs : List Inst) (class : ℕ) (v block : Inst) → block_of gs v ≡ Some block → slice_index v.args 0 ≡ class → (p : ℕ) × (struct_by gs class v ≡ Some p) × (option_and_then as_struct (global gs p) ≡ Some block)
struct_at gs class v block has same =
    let by = pointed ((is v.op code.Variable) && is_block_class (slice_index v.args 0)) (pointee gs v.ty) gs block has in
    let own : (slice_index v.args 0 == class) ≡ true = grind (arith, nat_tests, same) in
    let inner : cond (is_some (block_of gs v)) (pointee gs v.ty) None ≡ Some by.1.0 = ap (λ o. cond (is_some o) (pointee gs v.ty) None) has ∙ by.1.1 in
    (by.1.0, ap (λ b. cond b (cond (is_some (block_of gs v)) (pointee gs v.ty) None) None) own ∙ inner, by.1.2)

-- a struct that is found is that of a variable of the class
found_class : (b c : Bool) (o : Option ℕ) (p : ℕ) → cond b (cond c o None) None ≡ Some p → (b ≡ true) × (c ≡ true)
found_class true true o p e = (refl, refl)
found_class true false o p e = cc
found_class false c o p e = cc

some_is : (o : Option Inst) → is_some o ≡ true → (block : Inst) × (o ≡ Some block)
some_is None e = cc
some_is (Some block) e = (block, refl)

one_struct : (gs : List Inst) (o : Option ℕ) (p q : ℕ) (block : Inst) → o ≡ Some p → o ≡ Some q → option_and_then as_struct (global gs p) ≡ Some block → option_and_then as_struct (global gs q) ≡ Some block
one_struct gs o p q block first second at =
    let Q : ℕ → Type 0 = λ r. option_and_then as_struct (global gs r) ≡ Some block in
    subst Q (same_Some p q (sym first ∙ second)) at

-- the block of the variable with a struct
block_at : (gs : List Inst) (class : ℕ) (v : Inst) (p : ℕ) → struct_by gs class v ≡ Some p → (block : Inst) × (block_of gs v ≡ Some block) × (slice_index v.args 0 ≡ class) × (option_and_then as_struct (global gs p) ≡ Some block)
block_at gs class v p e =
    let both = found_class (slice_index v.args 0 == class) (is_some (block_of gs v)) (pointee gs v.ty) p e in
    let own : slice_index v.args 0 ≡ class = grind (arith, nat_tests, both.0) in
    let some = some_is (block_of gs v) both.1 in
    let by = struct_at gs class v some.0 some.1 own in
    (some.0, some.1, own, one_struct gs (struct_by gs class v) by.0 p some.0 by.1 e by.2)

by_global : (gs : List Inst) (class p : ℕ) (o : Option Inst) → option_and_then (struct_by gs class) o ≡ Some p → (v : Inst) × (o ≡ Some v) × (struct_by gs class v ≡ Some p)
by_global gs class p None e = cc
by_global gs class p (Some v) e = (v, refl, e)

-- it is a block variable
pub has_struct : (gs : List Inst) (class id p : ℕ) → struct_in gs class id ≡ Some p → IsBlockVariable gs id
has_struct gs class id p e =
    let found = by_global gs class p (global gs id) e in
    let block = block_at gs class found.0 p found.2 in
    let P : Option Inst → Type 0 = λ o. IsSomeAnd o (λ v. IsSome (block_of gs v)) in
    let Q : Option Inst → Type 0 = λ o. IsSome o in
    subst P (sym found.1) (subst Q (sym block.1) refl)

-- and where it breaks no rule its struct is laid out
pub laid_by : (m : ModuleState) (class id p : ℕ) → struct_in m.globals class id ≡ Some p → IsUnbroken m.heads m.globals id → IsLaidOut m class p
laid_by m class id p e fine =
    let found = by_global m.globals class p (global m.globals id) e in
    let block = block_at m.globals class found.0 p found.2 in
    let F : Option Inst → Type 0 = λ o. IsSomeAnd o (λ v. (rule : Rule) → BreaksAt m.heads m.globals v rule → ⊥) in
    let none : (rule : Rule) → BreaksAt m.heads m.globals found.0 rule → ⊥ = subst F found.1 fine in
    record {
      none = λ rule h.
          let B : Option Inst → Type 0 = λ o. IsSomeAnd o (BlockBreaks m class rule) in
          let breaks : BlockBreaks m class rule block.0 = subst B block.3 h in
          let C : ℕ → Type 0 = λ c. BlockBreaks m c rule block.0 in
          let own : IsBrokenBy m.heads m.globals found.0 block.0 rule = subst C (sym block.2) breaks in
          let D : Option Inst → Type 0 = λ o. IsSomeAnd o (λ b. IsBrokenBy m.heads m.globals found.0 b rule) in
          none rule (subst D (sym block.1) own);
    }

-- what is judged already, and one more
pub laid_before : (m : ModuleState) (class p : ℕ) (judged : ℕ → Bool) (o : Option ℕ) → o ≡ Some p → AreJudged m class judged → judged p ≡ true → IfSome o (IsLaidOut m class)
laid_before m class p judged o is all has = subst (λ (q : Option ℕ). IfSome q (IsLaidOut m class)) (sym is) (all.each p has)

pub laid_now : (m : ModuleState) (class p : ℕ) (o : Option ℕ) → o ≡ Some p → IsLaidOut m class p → IfSome o (IsLaidOut m class)
laid_now m class p o is laid = subst (λ (q : Option ℕ). IfSome q (IsLaidOut m class)) (sym is) laid

pub laid_none : (m : ModuleState) (class : ℕ) (o : Option ℕ) → o ≡ None → IfSome o (IsLaidOut m class)
laid_none m class o is = subst (λ (q : Option ℕ). IfSome q (IsLaidOut m class)) (sym is) tt

one_more : (m : ModuleState) (class p q : ℕ) (old : Bool) (b : Bool) → is_eq (nat_cmp p q) ≡ b → IsLaidOut m class p → (old ≡ true → IsLaidOut m class q) → cond b true old ≡ true → IsLaidOut m class q
one_more m class p q old true same here before e =
    let eq : p ≡ q = grind (arith, nat_tests, same) in
    subst (IsLaidOut m class) eq here
one_more m class p q old false same here before e = before e

pub judged_more : (m : ModuleState) (class p : ℕ) (old new : ℕ → Bool) → AreJudged m class old → IsLaidOut m class p → ((q : ℕ) → new q ≡ cond (is_eq (nat_cmp p q)) true (old q)) → AreJudged m class new
judged_more m class p old new all here now = record { each = λ q h. one_more m class p q (old q) (is_eq (nat_cmp p q)) refl here (all.each q) (sym (now q) ∙ h) }

pub ruleset judge_rules = (has_struct, laid_by)

-- one by one
pub laid_more : (m : ModuleState) (class : ℕ) (gs : List Inst) (i : ℕ) (g : Inst) → i < length gs → g ≡ get_or gs i g → All (IsLaidOutAt m class) (take i gs) → IsLaidOutAt m class g → All (IsLaidOutAt m class) (take (i + 1) gs)
laid_more m class gs i g inside own before here = All-more (IsLaidOutAt m class) gs i g inside before (subst (IsLaidOutAt m class) own here)

pub laid_all : (m : ModuleState) (class : ℕ) (gs : List Inst) (i : ℕ) → length gs ≤ i → All (IsLaidOutAt m class) (take i gs) → AreLaidOut m class gs
laid_all m class gs i past before = subst (λ (l : List Inst). All (IsLaidOutAt m class) l) (take_all i gs past) before

-- the classes of blocks
by_class : (class : ℕ) (P : ℕ → Type 0) → is_block_class class ≡ true → P (class_number storage.Uniform) → P (class_number storage.PushConstant) → P (class_number storage.StorageBuffer) → P class
by_class class P test uniform push buffer =
    elim (eqb_tells class (class_number storage.Uniform)) [
      | inl w ↦ subst P (sym w.1) uniform
      | inr w ↦
          elim (eqb_tells class (class_number storage.PushConstant)) [
            | inl u ↦ subst P (sym u.1) push
            | inr u ↦
                elim (eqb_tells class (class_number storage.StorageBuffer)) [
                  | inl t ↦ subst P (sym t.1) buffer
                  | inr t ↦ (let never : false ≡ true = rw (w.0, u.0, t.0) at test in cc)
                ]
          ]
    ]

broken_at : (m : ModuleState) (v : Inst) (rule : Rule) (o : Option Inst) → block_of m.globals v ≡ o → IsSomeAnd o (λ block. IsBrokenBy m.heads m.globals v block rule) → ((class : ℕ) → is_block_class class ≡ true → IsLaidOutAt m class v) → global m.globals v.result ≡ Some v → ⊥
broken_at m v rule None has b all own = b
broken_at m v rule (Some block) has b all own =
    let class : ℕ = slice_index v.args 0 in
    let by = struct_at m.globals class v block has refl in
    let test = pointed ((is v.op code.Variable) && is_block_class class) (pointee m.globals v.ty) m.globals block has in
    let is_class : is_block_class class ≡ true = (and_parts (is v.op code.Variable) (is_block_class class) test.0).1 in
    let struct : struct_in m.globals class v.result ≡ Some by.0 = ap (option_and_then (struct_by m.globals class)) own ∙ by.1 in
    let laid : IsLaidOut m class by.0 = subst (λ (o : Option ℕ). IfSome o (IsLaidOut m class)) struct (all class is_class) in
    let B : Option Inst → Type 0 = λ o. IsSomeAnd o (BlockBreaks m class rule) in
    laid.none rule (subst B (sym by.2) b)

broken_variable : (m : ModuleState) (id at : ℕ) (rule : Rule) (o : Option Inst) → global m.globals id ≡ o → IsSomeAnd o (λ v. (at ≡ v.at) × BreaksAt m.heads m.globals v rule) → ((class : ℕ) → is_block_class class ≡ true → AreLaidOut m class m.globals) → ⊥
broken_variable m id at rule None is b all = b
broken_variable m id at rule (Some v) is b all =
    let among = found_global m.globals id v is in
    broken_at m v rule (block_of m.globals v) refl b.1
    (λ class c. All-contains (IsLaidOutAt m class) m.globals v (all class c) among.0) (ap (global m.globals) among.1 ∙ is)

-- where the structs of all classes are laid out
pub none_broken : (m : ModuleState) → AreLaidOut m (class_number storage.Uniform) m.globals → AreLaidOut m (class_number storage.PushConstant) m.globals → AreLaidOut m (class_number storage.StorageBuffer) m.globals → (rule : Rule) (at : ℕ) → BreaksLayout m rule at → ⊥
none_broken m uniform push buffer rule at h =
    broken_variable m h.0 at rule (global m.globals h.0) refl h.1 (λ class c. by_class class (λ k. AreLaidOut m k m.globals) c uniform push buffer)
