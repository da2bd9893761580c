-- Numbers that are counted up to the cap.
use Rattle.std.proofs.Common.{◌≡◌, ◌<◌, ◌≤◌, ◌+◌, ◌*◌, ◌-◌, ◌^◌, ◌==◌, ℕ, zero, suc, Bool, true, false, cond, min, List, [], ◌∷◌, refl, ap, sym, ◌∙◌, arith, take, get_or, length}
use Rattle.std.specs.Prelude.{Option, Some, None, unwrap_or, fold, sum_by, slice_index, if◌then◌else◌}
use Rattle.std.specs.Option.{option_map_or}
use Rattle.std.specs.BTreeMap.{is_at}
use Rattle.std.specs.Ordering.{nat_cmp}
use Rattle.std.proofs.lemmas.List.Sums.{fold_more, sum_by-cons}
use Rattle.std.proofs.lemmas.List.{take_all}
use Rattle.list_law.proofs.Numbers.{order_at}
use Rattle.spv_ops.specs.Opcode.{is}
use Rattle.spv_ops.specs.declared.Op.TheVariants as code
use Rattle.spv_module.specs.Held.{global}
use Rattle.spv_module.specs.State.{ModuleState}
use Rattle.spv_module.specs.declared.inst.Inst.{Inst}
use Rattle.spv_module.specs.declared.inst.Block.{Block}
use Rattle.spv_module.specs.declared.inst.Function.{Function}
use Rattle.spv_types.specs.declared.kind.TypeKind.{TypeKind}
use Rattle.spv_types.specs.declared.kind.TypeKind.TheVariants.{Bool as BoolKind, Int, Vector, Array, Runtime, Struct, Other}
use Rattle.spv_types.specs.Types.{kind}
use Rattle.spv_index.specs.Pointers.{pointee}
use Rattle.profile_rules.specs.Leaves.{said_with, constant_length, leaves_by_kind, leaves_step, type_leaves, may_be_composite, is_composite, is_own_variable, inst_leaves, function_leaves, leaves_of_module}
use Rattle.spec_constants.specs.Counted.{cap, AreCounted}

add_same : (a b x y : ℕ) → min cap a ≡ min cap b → min cap x ≡ min cap y → min cap (a + x) ≡ min cap (b + y)
add_same a b x y h k = omega (arith, h, k)

product_same : (n a b : ℕ) → min cap a ≡ min cap b → min cap (n * a) ≡ min cap (n * b)
product_same zero a b h = omega arith
product_same (suc n) a b h = let step : min cap (n * a) ≡ min cap (n * b) = product_same n a b h in omega (arith, h, step)

pub sum_same : {X : Type 0} (f g : X → ℕ) (xs : List X) → ((x : X) → min cap (f x) ≡ min cap (g x)) → min cap (sum_by f xs) ≡ min cap (sum_by g xs)
sum_same f g [] h = refl
sum_same f g (x ∷ xs) h = rw (sum_by-cons f x xs, sum_by-cons g x xs) (add_same (f x) (g x) (sum_by f xs) (sum_by g xs) (h x) (sum_same f g xs h))

-- a sum up to the cap, with one more part that was counted up to the cap or past it
pub sum_more : {X : Type 0} (f : X → ℕ) (xs : List X) (i : ℕ) (d : X) (sum part : ℕ) → i < length xs → sum ≡ min cap (sum_by f (take i xs)) → min cap part ≡ min cap (f (get_or xs i d)) → min cap (min (sum + part) (2 ^ 64 - 1)) ≡ min cap (sum_by f (take (i + 1) xs))
sum_more f xs i d sum part inside is same =
    let more : sum_by f (take (i + 1) xs) ≡ sum_by f (take i xs) + f (get_or xs i d) = fold_more (λ a x. a + f x) 0 xs i d inside in
    omega (arith, is, same, more)

pub sum_end : {X : Type 0} (f : X → ℕ) (xs : List X) (i : ℕ) → length xs ≤ i → min cap (sum_by f (take i xs)) ≡ min cap (sum_by f xs)
sum_end f xs i past = ap (λ l. min cap (sum_by f l)) (take_all i xs past)

leaves_same : (gs : List Inst) (f g : ℕ → ℕ) (args : List ℕ) (k : TypeKind) → AreCounted f g → min cap (leaves_by_kind gs f args k) ≡ min cap (leaves_by_kind gs g args k)
leaves_same gs f g args BoolKind h = refl
leaves_same gs f g args Int h = refl
leaves_same gs f g args Vector h = product_same (slice_index args 1) (f (slice_index args 0)) (g (slice_index args 0)) (h (slice_index args 0))
leaves_same gs f g args Array h = product_same (constant_length (global gs (slice_index args 1))) (f (slice_index args 0)) (g (slice_index args 0)) (h (slice_index args 0))
leaves_same gs f g args Runtime h = refl
leaves_same gs f g args Struct h = sum_same f g args h
leaves_same gs f g args Other h = refl

at_result : (g : Inst) (q v : ℕ) (old : Option ℕ) (counted leaves : ℕ → ℕ) (all : List Inst) → min cap v ≡ min cap (leaves_step all leaves g) → min cap (unwrap_or old 0) ≡ min cap (leaves q) → min cap (unwrap_or (cond (is_at (nat_cmp g.result) q) (Some v) old) 0) ≡ min cap (said_with (leaves_step all) leaves g q)
at_result g q v old counted leaves all new same =
    ap (λ b. min cap (unwrap_or (cond b (Some v) old) 0)) (order_at g.result q)
    ∙ (elim (g.result == q) as (λ b. min cap (unwrap_or (cond b (Some v) old) 0) ≡ min cap (elim b as (λ x. ℕ) [ true ↦ leaves_step all leaves g | false ↦ leaves q ])) [ true ↦ new | false ↦ same ])

-- the counts with those of one more type
pub counted_more : (all gs : List Inst) (i q : ℕ) (g : Inst) (old new : ℕ → Option ℕ) (v : ℕ) → i < length gs → g ≡ get_or gs i g
    → AreCounted (λ id. unwrap_or (old id) 0) (fold (said_with (leaves_step all)) (λ id. 0) (take i gs))
    → v ≡ min cap (leaves_step all (λ id. unwrap_or (old id) 0) g)
    → new q ≡ cond (is_at (nat_cmp g.result) q) (Some v) (old q)
    → min cap (unwrap_or (new q) 0) ≡ min cap (fold (said_with (leaves_step all)) (λ id. 0) (take (i + 1) gs) q)
counted_more all gs i q g old new v inside is known value set =
    let counted : ℕ → ℕ = λ id. unwrap_or (old id) 0 in
    let leaves : ℕ → ℕ = fold (said_with (leaves_step all)) (λ id. 0) (take i gs) in
    let step : min cap v ≡ min cap (leaves_step all leaves g) = omega (arith, value, leaves_same all counted leaves g.args (kind g.op) known) in
    let more : fold (said_with (leaves_step all)) (λ id. 0) (take (i + 1) gs) q ≡ said_with (leaves_step all) leaves (get_or gs i g) q = ap (λ f. f q) (fold_more (said_with (leaves_step all)) (λ id. 0) gs i g inside) in
    ap (λ o. min cap (unwrap_or o 0)) set
    ∙ at_result g q v (old q) counted leaves all step (known q)
    ∙ ap (λ x. min cap (said_with (leaves_step all) leaves x q)) is
    ∙ ap (min cap) (sym more)

-- all types are counted once the list is at its end
pub counted_all : (all gs : List Inst) (i q : ℕ) → length gs ≤ i → gs ≡ all → min cap (fold (said_with (leaves_step all)) (λ id. 0) (take i gs) q) ≡ min cap (type_leaves all q)
counted_all all gs i q past same = ap (λ l. min cap (fold (said_with (leaves_step all)) (λ id. 0) l q)) (take_all i gs past ∙ same)

choice_same : (b : Bool) (a x c y : ℕ) → min cap a ≡ min cap x → min cap c ≡ min cap y → min cap (if b then a else c) ≡ min cap (if b then x else y)
choice_same true a x c y h k = h
choice_same false a x c y h k = k

map_same : (f g : ℕ → ℕ) (o : Option ℕ) → AreCounted f g → min cap (option_map_or f o 0) ≡ min cap (option_map_or g o 0)
map_same f g None h = refl
map_same f g (Some id) h = h id

inst_same : (gs : List Inst) (f g : ℕ → ℕ) (i : Inst) → AreCounted f g → min cap (inst_leaves gs f i) ≡ min cap (inst_leaves gs g i)
inst_same gs f g i h =
    choice_same (may_be_composite i.op) (if is_composite gs i.ty then f i.ty else 0) (if is_composite gs i.ty then g i.ty else 0)
    (if is_own_variable i then option_map_or f (pointee gs i.ty) 0 else (if is i.op code.CopyLogical then f i.ty else 0))
    (if is_own_variable i then option_map_or g (pointee gs i.ty) 0 else (if is i.op code.CopyLogical then g i.ty else 0))
    (choice_same (is_composite gs i.ty) (f i.ty) (g i.ty) 0 0 (h i.ty) refl)
    (choice_same (is_own_variable i) (option_map_or f (pointee gs i.ty) 0) (option_map_or g (pointee gs i.ty) 0) (if is i.op code.CopyLogical then f i.ty else 0) (if is i.op code.CopyLogical then g i.ty else 0)
    (map_same f g (pointee gs i.ty) h)
    (choice_same (is i.op code.CopyLogical) (f i.ty) (g i.ty) 0 0 (h i.ty) refl))

function_same : (gs : List Inst) (f g : ℕ → ℕ) (fn : Function) → AreCounted f g → min cap (function_leaves gs f fn) ≡ min cap (function_leaves gs g fn)
function_same gs f g fn h = sum_same (λ (b : Block). sum_by (inst_leaves gs f) b.insts) (λ (b : Block). sum_by (inst_leaves gs g) b.insts) fn.blocks (λ b. sum_same (inst_leaves gs f) (inst_leaves gs g) b.insts (λ i. inst_same gs f g i h))

-- the whole, from both sums with what was counted
pub module_same : (m : ModuleState) (f : ℕ → ℕ) (a b : ℕ) → AreCounted f (type_leaves m.globals) → a ≡ min cap (sum_by (inst_leaves m.globals f) m.globals) → b ≡ min cap (sum_by (function_leaves m.globals f) m.functions) → min cap (a + b) ≡ min cap (leaves_of_module m)
module_same m f a b h first second =
    let globals : min cap a ≡ min cap (sum_by (inst_leaves m.globals (type_leaves m.globals)) m.globals) = omega (arith, first, sum_same (inst_leaves m.globals f) (inst_leaves m.globals (type_leaves m.globals)) m.globals (λ i. inst_same m.globals f (type_leaves m.globals) i h)) in
    let functions : min cap b ≡ min cap (sum_by (function_leaves m.globals (type_leaves m.globals)) m.functions) = omega (arith, second, sum_same (function_leaves m.globals f) (function_leaves m.globals (type_leaves m.globals)) m.functions (λ fn. function_same m.globals f (type_leaves m.globals) fn h)) in
    add_same a (sum_by (inst_leaves m.globals (type_leaves m.globals)) m.globals) b (sum_by (function_leaves m.globals (type_leaves m.globals)) m.functions) globals functions

-- a part that was counted, of the element at a place
pub sum_more_at : {X : Type 0} (f : X → ℕ) (xs : List X) (i : ℕ) (x : X) (sum part : ℕ) → i < length xs → x ≡ get_or xs i x → sum ≡ min cap (sum_by f (take i xs)) → min cap part ≡ min cap (f x) → min cap (min (sum + part) (2 ^ 64 - 1)) ≡ min cap (sum_by f (take (i + 1) xs))
sum_more_at f xs i x sum part inside is so_far same = sum_more f xs i x sum part inside so_far (same ∙ ap (λ y. min cap (f y)) is)
