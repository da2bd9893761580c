-- What operands and results of a conforming module's instructions have: types, and shapes where the rules ask for values.
use Rattle.std.proofs.Common.{◌≡◌, ◌<◌, ◌≤◌, ◌+◌, ◌==◌, ◌||◌, ◌&&◌, not, ℕ, zero, suc, Bool, true, false, List, [], ◌∷◌, length, drop, Option, Some, None, inl, inr, refl, sym, ap, subst, ◌∙◌, if◌then◌else◌, arith}
use Rattle.std.specs.Prelude.{◌⊎◌, find, flat_map, nat_lt, is_some, option_map, option_and_then, Contains, slice_index}
use Rattle.std.specs.Option.{option_map_or, option_or}
use Rattle.std.specs.List.{list_any, zip}
use Rattle.std.proofs.lemmas.Bool.Decides.{eqb_tells, nat_tests}
use Rattle.std.proofs.lemmas.Bool.{and_from, not-false}
use Rattle.std.proofs.lemmas.Option.{same_Some}
use Rattle.spv_ops.specs.Opcode.{is, number}
use Rattle.spv_ops.specs.Groups.{is_type as is_type_op}
use Rattle.spv_ops.specs.Shape.{shape, count_of}
use Rattle.spv_ops.specs.Operands.{is_id}
use Rattle.spv_ops.specs.OpGroups.{takes_of, group_of}
use Rattle.spv_ops.specs.declared.Op.{Op}
use Rattle.spv_ops.specs.declared.Op.TheVariants as code
use Rattle.spv_module.specs.State.{ModuleState}
use Rattle.spv_module.specs.Held.{global}
use Rattle.spv_module.specs.Inst.{has_type, has_result}
use Rattle.spv_module.specs.declared.inst.Id.{Id}
use Rattle.spv_module.specs.declared.inst.Inst.{Inst}
use Rattle.spv_module.specs.declared.inst.Block.{Block}
use Rattle.spv_module.specs.declared.inst.Function.{Function}
use Rattle.spv_types.specs.declared.kind.TypeKind.TheVariants.{Other}
use Rattle.spv_types.specs.Tree.{Tree}
use Rattle.spv_types.specs.Types.{kind, is_shapeless, tree_by_kind, tree_before, tree_at, type_tree, earlier}
use Rattle.spv_types.specs.Leaves.{IsSized}
use Rattle.spv_decor.specs.Rows.{word}
use Rattle.spv_decor.specs.Decorations.{local_insts}
use Rattle.spv_index.specs.Locals.{insts_of, inst_in, parameter_in, typed, global_type, local_type, type_in}
use Rattle.spv_index.specs.ValueTypes.{is_no_value_type}
use Rattle.profile_rules.specs.declared.needs.Need.TheVariants.{AnyType, FunctionType, Value, PhiValue}
use Rattle.profile_rules.specs.Operands.{need, type_need, suits, is_global, is_local, is_local_before, is_in_function, is_there, is_there_in, lacks_type}
use Rattle.profile_rules.specs.Places.{is_variable, body_insts}
use Rattle.profile_rules.specs.TypeRows.{is_type, type_row, fails, differ, value_fails, is_other, one_if, count_in, is_not}
use Rattle.profile_rules.specs.TypeForm.{is_no_variable, is_other_parameter, is_other_result, is_other_function, is_other_pointer}
use Rattle.profile_rules.specs.FlowRules.{function_type_if, function_type, is_misdeclared}
use Rattle.list_law.proofs.Options.{some_by, some_part, none_some}
pub use Rattle.list_law.proofs.Numbers.{same_count}
use Rattle.list_law.proofs.Tests.{first_by, or_left, or_right, and_off, and_left, clash}
use Rattle.plan_law.specs.InOrder.{IsAmong}
use Rattle.plan_law.proofs.Order.{found, among_left, among_right}
use Rattle.module_semantics.specs.Setting.{Setting}
use Rattle.fits_law.specs.State.{value_shape, IsLocal}
use Rattle.type_law.proofs.Vectors.{three_off}
use Rattle.typed_law.specs.Conforms.{IsFormed, IsParameter, IsConforming, IsConformingIn}
use Rattle.typed_law.proofs.Lists.{any_none, found_in, earlier_some}
use Rattle.typed_law.proofs.Rules.{type_there, operand_there, global_there, pointed_type, types_there, declared_right}
use Rattle.typed_law.proofs.Types.{type_shaped, row_is}
use Rattle.typed_law.proofs.Sized.{value_type_is}
use Rattle.typed_law.proofs.Used.{used_sized}
use Rattle.typed_law.proofs.Opcodes.{of_number}

-- opcodes
pointer_is_type : (o : Op) → is o code.TypePointer ≡ true → is_type_op o ≡ true
unfolding number
pointer_is_type code.TypePointer e = refl
pointer_is_type o e = cc

function_is_type : (o : Op) → is o code.TypeFunction ≡ true → is_type_op o ≡ true
unfolding number
function_is_type code.TypeFunction e = refl
function_is_type o e = cc

pub type_suits : (o : Op) (g : Inst) → suits (type_need o) g ≡ true → is_type g ≡ true
type_suits code.Variable g e = pointer_is_type g.op e
type_suits o g e = e

pub variable_type_is : (o : Op) (g : Inst) → is o code.Variable ≡ true → suits (type_need o) g ≡ true → is g.op code.TypePointer ≡ true
unfolding number
variable_type_is o g = of_number code.Variable (λ (p : Op). suits (type_need p) g ≡ true → is g.op code.TypePointer ≡ true) (λ e. e) o

pub type_outside : (m : ModuleState) (f : Function) (n id : ℕ) (o : Op) → is_in_function m f n (type_need o) id ≡ false
type_outside m f n id code.Variable = refl
type_outside m f n id o = refl

pub typed_result : (o : Op) → has_type o ≡ true → has_result o ≡ true
unfolding shape
typed_result code.Undef e = refl
typed_result o e = cc

pub pointer_kind : (o : Op) → is o code.TypePointer ≡ true → kind o ≡ Other
unfolding kind number
pointer_kind code.TypePointer e = refl
pointer_kind o e = cc

-- types that pass these tests have shapes
pub vector_shaped : (o : Op) → is o code.TypeVector ≡ true → is_shapeless o ≡ false
unfolding number
vector_shaped code.TypeVector e = refl
vector_shaped o e = cc

pub int_shaped : (o : Op) → is o code.TypeInt ≡ true → is_shapeless o ≡ false
unfolding number
int_shaped code.TypeInt e = refl
int_shaped o e = cc

pub bool_shaped : (o : Op) → is o code.TypeBool ≡ true → is_shapeless o ≡ false
unfolding number
bool_shaped code.TypeBool e = refl
bool_shaped o e = cc

-- and the others are made of none
pub shapeless_no_vector : (o : Op) → is_shapeless o ≡ true → is o code.TypeVector ≡ false
unfolding number
shapeless_no_vector code.TypeVector e = cc
shapeless_no_vector o e = refl

pub shapeless_no_int : (o : Op) → is_shapeless o ≡ true → is o code.TypeInt ≡ false
unfolding number
shapeless_no_int code.TypeInt e = cc
shapeless_no_int o e = refl

pub shapeless_no_bool : (o : Op) → is_shapeless o ≡ true → is o code.TypeBool ≡ false
unfolding number
shapeless_no_bool code.TypeBool e = cc
shapeless_no_bool o e = refl

-- the type of an instruction that has one
pub type_of : (i : Inst) (ty : ℕ) → typed i ≡ Some ty → (i.ty ≡ ty) × (i.ty ≡ 0 → ⊥)
type_of i ty e = by_test (i.ty == 0) (eqb_tells i.ty 0) e
  where
    by_test : (b : Bool) → ((b ≡ true) × (i.ty ≡ 0)) ⊎ ((b ≡ false) × (i.ty ≡ 0 → ⊥)) → (if b then None else Some i.ty) ≡ Some ty → (i.ty ≡ ty) × (i.ty ≡ 0 → ⊥)
    by_test true w e = cc
    by_test false (inl w) e = cc
    by_test false (inr w) e = (same_Some i.ty ty e, w.1)

pub typed_is : (i : Inst) → (i.ty ≡ 0 → ⊥) → typed i ≡ Some i.ty
typed_is i some = by_test (i.ty == 0) (eqb_tells i.ty 0)
  where
    by_test : (b : Bool) → ((b ≡ true) × (i.ty ≡ 0)) ⊎ ((b ≡ false) × (i.ty ≡ 0 → ⊥)) → (if b then None else Some i.ty) ≡ Some i.ty
    by_test b (inl w) = absurd (some w.1)
    by_test true (inr w) = cc
    by_test false (inr w) = refl

pub has_a_type : (i : Inst) → IsFormed i → (i.ty ≡ 0 → ⊥) → has_type i.op ≡ true
has_a_type i formed some = by_test (has_type i.op) refl
  where
    by_test : (b : Bool) → has_type i.op ≡ b → b ≡ true
    by_test true e = refl
    by_test false e = absurd (some (formed.untyped e))

-- the parameter that is found
param_found : (ps : List (Id × Id)) (id : ℕ) (p : Id × Id) → find (λ (q : Id × Id). q.0.0 == id) ps ≡ Some p → IsParameter p ps
param_found [] id p e = cc
param_found (q ∷ ps) id p e = by_test (q.0.0 == id) e (λ rest. param_found ps id p rest)
  where
    by_test : (b : Bool) → (if b then Some q else find (λ (r : Id × Id). r.0.0 == id) ps) ≡ Some p → (find (λ (r : Id × Id). r.0.0 == id) ps ≡ Some p → IsParameter p ps) → (q ≡ p) ⊎ IsParameter p ps
    by_test true e next = inl (same_Some q p e)
    by_test false e next = inr (next e)

param_none : (test : Id × Id → Bool) (ps : List (Id × Id)) (p : Id × Id) → list_any test ps ≡ false → IsParameter p ps → test p ≡ false
param_none test [] p e there = absurd there
param_none test (q ∷ ps) p e (inl same) = subst (λ r. test r ≡ false) same (or_left (test q) (list_any test ps) e)
param_none test (q ∷ ps) p e (inr there) = param_none test ps p (or_right (test q) (list_any test ps) e) there

-- each parameter has a type beside it in a list of as many
zip_none : (test : ℕ → ℕ → Bool) (tys : List ℕ) (ps : List (Id × Id)) (p : Id × Id) → length ps ≡ length tys → list_any (λ (q : ℕ × (Id × Id)). test q.0 q.1.1.0) (zip tys ps) ≡ false → IsParameter p ps → (k : ℕ) × (k < length tys) × (test (slice_index tys k) p.1.0 ≡ false)
zip_none test tys [] p many e there = absurd there
zip_none test [] (q ∷ ps) p many e there = absurd (omega (arith, many))
zip_none test (ty ∷ tys) (q ∷ ps) p many e (inl same) =
    (0, (let less : 0 < suc (length tys) = omega arith in less), subst (λ (r : Id × Id). test ty r.1.0 ≡ false) same (or_left (test ty q.1.0) (list_any (λ (r : ℕ × (Id × Id)). test r.0 r.1.1.0) (zip tys ps)) e))
zip_none test (ty ∷ tys) (q ∷ ps) p many e (inr there) =
    let k = zip_none test tys ps p (let same : length ps ≡ length tys = omega (arith, many) in same) (or_right (test ty q.1.0) (list_any (λ (r : ℕ × (Id × Id)). test r.0 r.1.1.0) (zip tys ps)) e) there in
    let less = k.1 in
    (suc k.0, (let more : suc k.0 < suc (length tys) = omega (arith, less) in more), k.2)

-- operands of a function type
pub function_id : (o : Op) (args : List ℕ) (k : ℕ) → is o code.TypeFunction ≡ true → is_id o args k ≡ true
unfolding number is_id
function_id o args k =
    let each : is_id code.TypeFunction args k ≡ true = grind (arith, nat_tests) in
    of_number code.TypeFunction (λ (p : Op). is_id p args k ≡ true) each o

pub function_need : (o : Op) (k : ℕ) → is o code.TypeFunction ≡ true → need o k ≡ AnyType
unfolding number need takes_of group_of
function_need o k = of_number code.TypeFunction (λ (p : Op). need p k ≡ AnyType) refl o

pub function_least : (o : Op) (n : ℕ) → is o code.TypeFunction ≡ true → (shape o).least ≤ 1 + count_of (has_type o) + count_of (has_result o) + n → 0 < n
unfolding number shape
function_least code.TypeFunction n e le = omega (arith, le)
function_least o n e le = cc

drop_one : (xs : List ℕ) (k : ℕ) → slice_index (drop 1 xs) k ≡ slice_index xs (suc k)
drop_one [] k = refl
drop_one (x ∷ xs) k = refl

drop_less : (xs : List ℕ) (k : ℕ) → k < length (drop 1 xs) → suc k < length xs
drop_less [] k less = absurd (omega (arith, less))
drop_less (x ∷ xs) k less = omega (arith, less)

pub among_functions : (fs : List Function) (f : Function) (i : Inst) → Contains fs f → IsAmong i (insts_of f) → IsAmong i (flat_map (λ (g : Function). flat_map (λ (b : Block). b.insts) g.blocks) fs)
among_functions [] f i in_it there = let less = in_it.1 in absurd (omega (arith, less))
among_functions (g ∷ fs) f i (zero, less, same) there = among_left i (insts_of g) (flat_map (λ (h : Function). flat_map (λ (b : Block). b.insts) h.blocks) fs) (subst (λ h. IsAmong i (insts_of h)) (sym same) there)
among_functions (g ∷ fs) f i (suc k, less, same) there = among_right i (insts_of g) (flat_map (λ (h : Function). flat_map (λ (b : Block). b.insts) h.blocks) fs) (among_functions fs f i (k, (let low : k < length fs = omega (arith, less) in low), same) there)

some_param : (o : Option (Id × Id)) (ps : List (Id × Id)) (id x : ℕ) → find (λ (q : Id × Id). q.0.0 == id) ps ≡ o → option_map (λ (p : Id × Id). p.1.0) o ≡ Some x → (p : Id × Id) × (p.1.0 ≡ x) × IsParameter p ps
some_param None ps id x at e = cc
some_param (Some p) ps id x at e = (p, same_Some p.1.0 x e, param_found ps id p at)

module _ (s : Setting) (entry : Option (List ℕ)) (right : IsConforming s.of entry) where
  abbrev Gs : List Inst
  Gs = s.of.globals

  -- a type by its id
  abbrev pub IsRow : ℕ → Type 0
  IsRow ty = (g : Inst) × (global Gs ty ≡ Some g) × (is_type g ≡ true)

  row_of : (n ty : ℕ) (o : Op) → is_global Gs n (type_need o) ty ≡ true → (g : Inst) × (global Gs ty ≡ Some g) × (suits (type_need o) g ≡ true)
  row_of n ty o e = let g = some_by (suits (type_need o)) (earlier Gs n ty) e in (g.0, (earlier_some Gs n ty g.0 g.1).0, g.2)

  -- the type of a global, of an instruction of a function and of a parameter
  pub global_row : (h : Inst) → IsAmong h Gs → (h.ty ≡ 0 → ⊥) → (g : Inst) × (global Gs h.ty ≡ Some g) × (suits (type_need h.op) g ≡ true)
  global_row h there some = row_of h.at h.ty h.op (type_there (is_there Gs h.at) h (global_there s.of entry right h there) (has_a_type h (right.formed h there) some))

  -- a global with a type has one that is not 0
  pub global_typed_some : (h : Inst) → IsAmong h Gs → has_type h.op ≡ true → h.ty ≡ 0 → ⊥
  global_typed_some h there has zero_is =
      let g = row_of h.at h.ty h.op (type_there (is_there Gs h.at) h (global_there s.of entry right h there) has) in
      none_some (sym right.results.none ∙ (ap (global Gs) (sym zero_is) ∙ g.1))

  pub shape_of_row : (ty : ℕ) (w : IsRow ty) → is_shapeless w.0.op ≡ false → (t : Tree) × (type_tree Gs ty ≡ Some t)
  shape_of_row ty w shaped = type_shaped s.of entry right ty w.0 w.1 w.2 shaped

  pub value_type_has : (ty : ℕ) → IsRow ty → is_no_value_type s.of.heads Gs ty ≡ false → (t : Tree) × (type_tree Gs ty ≡ Some t) × IsSized t
  value_type_has ty w off =
      let v = value_type_is s.of entry right ty w.0 w.1 off in
      let t = shape_of_row ty w v.0 in
      (t.0, t.1, v.1 t.0 (sym (ap (λ o. option_map_or (tree_at Gs) o None) w.1) ∙ t.1))

  -- a pointer type has no shape
  pointer_none : (g : Inst) (t : Tree) → is g.op code.TypePointer ≡ true → tree_at Gs g ≡ Some t → ⊥
  pointer_none g t on e = none_some (ap (tree_by_kind Gs (tree_before Gs g.at) g) (sym (pointer_kind g.op on)) ∙ e)

  module _ (f : Function) (in_it : Contains s.of.functions f) where
    abbrev pub T : ℕ → Option ℕ
    T = type_in Gs f

    pub inside : IsConformingIn s.of f
    inside = right.inside f in_it

    -- T1 of an instruction
    pub local_row : (i : Inst) → IsAmong i (insts_of f) → (i.ty ≡ 0 → ⊥) → (g : Inst) × (global Gs i.ty ≡ Some g) × (suits (type_need i.op) g ≡ true)
    local_row i there some =
        let on = type_there (is_there_in s.of f i.at) i (inside.order.there i there) (has_a_type i (inside.formed i there) some) in
        row_of i.at i.ty i.op (first_by (is_global Gs i.at (type_need i.op) i.ty) (is_in_function s.of f i.at (type_need i.op) i.ty) on (type_outside s.of f i.at i.ty i.op))

    pub parameter_row : (p : Id × Id) → IsParameter p f.params → IsRow p.1.0
    parameter_row p there =
        let off = three_off (not (is_there Gs f.at AnyType f.result.0)) (not (is_there Gs f.at FunctionType f.ty.0)) (list_any (lacks_type Gs f.at) f.params) (types_there s.of entry right f in_it) in
        let on = not-false (is_there Gs f.at AnyType p.1.0) (param_none (lacks_type Gs f.at) f.params p off.2 there) in
        let g = some_by (suits AnyType) (earlier Gs f.at p.1.0) on in
        (g.0, (earlier_some Gs f.at p.1.0 g.0 g.1).0, g.2)

    pub result_row : IsRow f.result.0
    result_row =
        let off = three_off (not (is_there Gs f.at AnyType f.result.0)) (not (is_there Gs f.at FunctionType f.ty.0)) (list_any (lacks_type Gs f.at) f.params) (types_there s.of entry right f in_it) in
        let g = some_by (suits AnyType) (earlier Gs f.at f.result.0) (not-false (is_there Gs f.at AnyType f.result.0) off.0) in
        (g.0, (earlier_some Gs f.at f.result.0 g.0 g.1).0, g.2)

    -- the OpTypeFunction of the function, and what it says of the parameters
    pub record IsDeclaredBy (g : Inst) : Type 0 where
      pub is_it : function_type Gs f ≡ Some g
      pub there : IsAmong g Gs
      pub on : is g.op code.TypeFunction ≡ true
      pub result : differ Gs (word g 0) f.result.0 ≡ false
      pub many : length f.params ≡ length (drop 1 g.args)
      pub each : list_any (λ (p : ℕ × (Id × Id)). differ Gs p.0 p.1.1.0) (zip (drop 1 g.args) f.params) ≡ false

    pub declared_by : (g : Inst) × IsDeclaredBy g
    declared_by =
        let off = three_off (not (is_there Gs f.at AnyType f.result.0)) (not (is_there Gs f.at FunctionType f.ty.0)) (list_any (lacks_type Gs f.at) f.params) (types_there s.of entry right f in_it) in
        let g = some_by (suits FunctionType) (earlier Gs f.at f.ty.0) (not-false (is_there Gs f.at FunctionType f.ty.0) off.1) in
        let w = earlier_some Gs f.at f.ty.0 g.0 g.1 in
        let is_it : function_type Gs f ≡ Some g.0 = ap (option_and_then function_type_if) w.0 ∙ ap (λ (b : Bool). if b then Some g.0 else None) g.2 in
        let told : is_misdeclared Gs f g.0 ≡ false = ap (λ o. option_map_or (is_misdeclared Gs f) o false) (sym is_it) ∙ declared_right s.of entry right f in_it in
        let parts = three_off (differ Gs (word g.0 0) f.result.0) (not (length f.params == length (drop 1 g.0.args))) (list_any (λ (p : ℕ × (Id × Id)). differ Gs p.0 p.1.1.0) (zip (drop 1 g.0.args) f.params)) told in
        (g.0, record { is_it = is_it; there = found_in Gs f.ty.0 g.0 w.0; on = g.2; result = parts.0; many = same_count (length f.params) (length (drop 1 g.0.args)) parts.1; each = parts.2 })

    -- the type of a value
    pub type_row_of : (id ty : ℕ) → T id ≡ Some ty → IsRow ty
    type_row_of id ty e = by_global (global_type Gs id) refl e
      where
        by_local : (o : Option ℕ) → parameter_in f id ≡ o → option_or o (option_and_then typed (inst_in f id)) ≡ Some ty → IsRow ty
        by_local (Some x) at e =
            let p = some_param (find (λ (q : Id × Id). q.0.0 == id) f.params) f.params id x refl at in
            subst IsRow (p.1 ∙ same_Some x ty e) (parameter_row p.0 p.2)
        by_local None at e =
            let i = some_part typed (inst_in f id) ty e in
            let own = type_of i.0 ty i.2 in
            let g = local_row i.0 (found_in (insts_of f) id i.0 i.1) own.1 in
            subst IsRow own.0 (g.0, g.1, type_suits i.0.op g.0 g.2)

        by_global : (o : Option ℕ) → global_type Gs id ≡ o → option_or o (local_type f id) ≡ Some ty → IsRow ty
        by_global (Some x) at e =
            let h = some_part typed (global Gs id) x at in
            let own = type_of h.0 x h.2 in
            let g = global_row h.0 (found_in Gs id h.0 h.1) own.1 in
            subst IsRow (own.0 ∙ same_Some x ty e) (g.0, g.1, type_suits h.0.op g.0 g.2)
        by_global None at e = by_local (parameter_in f id) refl e

    -- two types that do not differ are one
    pub one_type : (a b : ℕ) → IsRow a → IsRow b → differ Gs a b ≡ false → a ≡ b
    one_type a b v w e =
        let some_a : is_some (type_row Gs a) ≡ true = ap is_some (row_is s.of entry right a v.0 v.1 v.2) in
        let some_b : is_some (type_row Gs b) ≡ true = ap is_some (row_is s.of entry right b w.0 w.1 w.2) in
        same_count a b (and_off (is_some (type_row Gs a) && is_some (type_row Gs b)) (not (a == b)) e (and_from (is_some (type_row Gs a)) (is_some (type_row Gs b)) some_a some_b))

    -- P19: a parameter is of a value type, or a pointer
    pub parameter_right : (p : Id × Id) → IsParameter p f.params → is_other_parameter s.of.heads Gs p.1.0 ≡ false
    parameter_right p there =
        let g = declared_by in
        let k = zip_none (differ Gs) (drop 1 g.0.args) f.params p g.1.many g.1.each there in
        let a : ℕ = slice_index (drop 1 g.0.args) k.0 in
        let place = drop_one g.0.args k.0 in
        let inside_it = drop_less g.0.args k.0 k.1 in
        let on = operand_there (is_there Gs g.0.at) g.0 (global_there s.of entry right g.0 g.1.there) (suc k.0) inside_it (function_id g.0.op g.0.args (suc k.0) g.1.on) in
        let there_a : is_there Gs g.0.at AnyType a ≡ true = subst (λ x. is_there Gs g.0.at AnyType x ≡ true) (sym place) (subst (λ q. is_there Gs g.0.at q (slice_index g.0.args (suc k.0)) ≡ true) (function_need g.0.op (suc k.0) g.1.on) on) in
        let h = some_by (suits AnyType) (earlier Gs g.0.at a) there_a in
        let same = one_type a p.1.0 (h.0, (earlier_some Gs g.0.at a h.0 h.1).0, h.2) (parameter_row p there) k.2 in
        let told = and_off (is g.0.op code.TypeFunction) (is_other_result s.of.heads Gs (word g.0 0) || list_any (is_other_parameter s.of.heads Gs) (drop 1 g.0.args)) (or_right (is_other_pointer Gs g.0) (is_other_function s.of.heads Gs g.0) (pointed_type s.of entry right g.0 g.1.there)) g.1.on in
        subst (λ x. is_other_parameter s.of.heads Gs x ≡ false) same (any_none (is_other_parameter s.of.heads Gs) (drop 1 g.0.args) a k.0 0 (or_right (is_other_result s.of.heads Gs (word g.0 0)) (list_any (is_other_parameter s.of.heads Gs) (drop 1 g.0.args)) told) k.1 refl)

    -- the type of a value has values, where it has a shape
    pub value_sized : (id ty : ℕ) → T id ≡ Some ty → (t : Tree) → type_tree Gs ty ≡ Some t → IsSized t
    value_sized id ty e t shape = by_global (global_type Gs id) refl e
      where
        at_row : (x : ℕ) (g : Inst) → x ≡ ty → global Gs x ≡ Some g → tree_at Gs g ≡ Some t
        at_row x g same at = ap (λ o. option_map_or (tree_at Gs) o None) (sym at) ∙ (ap (type_tree Gs) same ∙ shape)

        by_inst : (i : Inst) → IsAmong i (body_insts s.of) → i.ty ≡ ty → (g : Inst) × (global Gs i.ty ≡ Some g) × (suits (type_need i.op) g ≡ true) → (b : Bool) → is_variable i ≡ b → IsSized t
        by_inst i there same g true on = absurd (pointer_none g.0 t (variable_type_is i.op g.0 on g.2) (at_row i.ty g.0 same g.1))
        by_inst i there same g false off = used_sized s.of entry right i there off t (ap (type_tree Gs) same ∙ shape)

        by_pointer : (p : Id × Id) → p.1.0 ≡ ty → is_other_parameter s.of.heads Gs p.1.0 ≡ false → (g : Inst) → global Gs p.1.0 ≡ Some g → is_type g ≡ true → (b : Bool) → is g.op code.TypePointer ≡ b → IsSized t
        by_pointer p same right_is g at typed true on = absurd (pointer_none g t on (at_row p.1.0 g same at))
        by_pointer p same right_is g at typed false off =
            let told : is_no_value_type s.of.heads Gs p.1.0 ≡ false =
            ap (λ (b : Bool). if b then is_no_variable s.of.heads Gs g else is_no_value_type s.of.heads Gs p.1.0) (sym off) ∙ (ap (λ o. option_map_or (λ (x : Inst). if is x.op code.TypePointer then is_no_variable s.of.heads Gs x else is_no_value_type s.of.heads Gs p.1.0) o false) (sym at) ∙ right_is) in
            let v = value_type_has p.1.0 (g, at, typed) told in
            subst IsSized (same_Some v.0 t (sym v.1 ∙ (ap (type_tree Gs) same ∙ shape))) v.2

        by_local : (o : Option ℕ) → parameter_in f id ≡ o → option_or o (option_and_then typed (inst_in f id)) ≡ Some ty → IsSized t
        by_local (Some x) at e =
            let p = some_param (find (λ (q : Id × Id). q.0.0 == id) f.params) f.params id x refl at in
            let g = parameter_row p.0 p.2 in
            by_pointer p.0 (p.1 ∙ same_Some x ty e) (parameter_right p.0 p.2) g.0 g.1 g.2 (is g.0.op code.TypePointer) refl
        by_local None at e =
            let i = some_part typed (inst_in f id) ty e in
            let own = type_of i.0 ty i.2 in
            let there = found_in (insts_of f) id i.0 i.1 in
            by_inst i.0 (among_right i.0 Gs (local_insts s.of) (among_functions s.of.functions f i.0 in_it there)) own.0 (local_row i.0 there own.1) (is_variable i.0) refl

        by_global : (o : Option ℕ) → global_type Gs id ≡ o → option_or o (local_type f id) ≡ Some ty → IsSized t
        by_global (Some x) at e =
            let h = some_part typed (global Gs id) x at in
            let own = type_of h.0 x h.2 in
            let there = found_in Gs id h.0 h.1 in
            by_inst h.0 (among_left h.0 Gs (local_insts s.of) there) (own.0 ∙ same_Some x ty e) (global_row h.0 there own.1) (is_variable h.0) refl
        by_global None at e = by_local (parameter_in f id) refl e

    -- the result of an instruction has its type, and none of a global's id
    pub own_type : (i : Inst) → IsAmong i (insts_of f) → (i.ty ≡ 0 → ⊥) → T i.result ≡ Some i.ty
    own_type i there some =
        let formed = inside.formed i there in
        let has = typed_result i.op (has_a_type i formed some) in
        let own = inside.order.own i there (formed.result has) in
        ap (λ o. option_or (option_and_then typed o) (local_type f i.result)) own.inside ∙ (ap (λ o. option_or o (option_and_then typed (inst_in f i.result))) own.made ∙ (ap (option_and_then typed) (found i (insts_of f) inside.order.apart there (formed.result has)) ∙ typed_is i some))

    pub own_local : (i : Inst) → IsAmong i (insts_of f) → IsLocal s i.result
    own_local i there = elim (eqb_tells i.result 0) [ inl w ↦ ap (global Gs) w.1 ∙ right.results.none | inr w ↦ (inside.order.own i there w.1).inside ]

    -- a type that has a shape is not 0
    pub shaped_some : (ty : ℕ) (t : Tree) → type_tree Gs ty ≡ Some t → ty ≡ 0 → ⊥
    shaped_some ty t shape zero_is = none_some (ap (λ o. option_map_or (tree_at Gs) o None) (sym right.results.none) ∙ (ap (type_tree Gs) (sym zero_is) ∙ shape))

    pub own_shape : (i : Inst) → IsAmong i (insts_of f) → (t : Tree) → type_tree Gs i.ty ≡ Some t → value_shape s f i.result ≡ Some t
    own_shape i there t shape = ap (option_and_then (type_tree Gs)) (own_type i there (shaped_some i.ty t shape)) ∙ shape

    -- operands
    abbrev pub HasType : ℕ → Type 0
    HasType id = (ty : ℕ) × (T id ≡ Some ty)

    or_some : (a b : Option ℕ) → (is_some a ≡ true) ⊎ (is_some b ≡ true) → (x : ℕ) × (option_or a b ≡ Some x)
    or_some (Some x) b e = (x, refl)
    or_some None (Some x) e = (x, refl)
    or_some None None (inl e) = cc
    or_some None None (inr e) = cc

    typed_global : (n id : ℕ) → is_global Gs n Value id ≡ true → HasType id
    typed_global n id e =
        let h = some_by (suits Value) (earlier Gs n id) e in
        let at : global_type Gs id ≡ typed h.0 = ap (option_and_then typed) (earlier_some Gs n id h.0 h.1).0 in
        or_some (global_type Gs id) (local_type f id) (inl (ap is_some at ∙ h.2))

    typed_local : (id : ℕ) → (is_some (parameter_in f id) || option_map_or (λ (i : Inst). is_some (typed i)) (inst_in f id) false) ≡ true → HasType id
    typed_local id e = or_some (global_type Gs id) (local_type f id) (inr (by_parameter (parameter_in f id) (inst_in f id) e))
      where
        by_parameter : (o : Option ℕ) (q : Option Inst) → (is_some o || option_map_or (λ (i : Inst). is_some (typed i)) q false) ≡ true → is_some (option_or o (option_and_then typed q)) ≡ true
        by_parameter (Some x) q e = refl
        by_parameter None None e = cc
        by_parameter None (Some i) e = e

    before_local : (n id : ℕ) → is_local_before f n id ≡ true → (is_some (parameter_in f id) || option_map_or (λ (i : Inst). is_some (typed i)) (inst_in f id) false) ≡ true
    before_local n id e = by_parameter (is_some (parameter_in f id)) (inst_in f id) e
      where
        by_parameter : (b : Bool) (q : Option Inst) → (b || option_map_or (λ (i : Inst). is_some (typed i) && nat_lt i.at n) q false) ≡ true → (b || option_map_or (λ (i : Inst). is_some (typed i)) q false) ≡ true
        by_parameter true q e = refl
        by_parameter false None e = cc
        by_parameter false (Some i) e = and_left (is_some (typed i)) (nat_lt i.at n) e

    pub typed_value : (n id : ℕ) → is_there_in s.of f n Value id ≡ true → HasType id
    typed_value n id e = by_global (is_global Gs n Value id) refl e
      where
        by_global : (b : Bool) → is_global Gs n Value id ≡ b → (b || is_local_before f n id) ≡ true → HasType id
        by_global true at e = typed_global n id at
        by_global false at e = typed_local id (before_local n id e)

    pub typed_source : (n id : ℕ) → is_there_in s.of f n PhiValue id ≡ true → HasType id
    typed_source n id e = by_global (is_global Gs n PhiValue id) refl e
      where
        by_global : (b : Bool) → is_global Gs n PhiValue id ≡ b → (b || is_local f id) ≡ true → HasType id
        by_global true at e = typed_global n id at
        by_global false at e = typed_local id e

    -- the shape of a value of a type that passes a test, of one that is not another, of one of which something is counted
    abbrev pub HasItsShape : ℕ → Type 0
    HasItsShape id = (u : Tree) × (value_shape s f id ≡ Some u)

    pub shape_of : (id : ℕ) (w : HasType id) (g : Inst) → global Gs w.0 ≡ Some g → is_type g ≡ true → is_shapeless g.op ≡ false → HasItsShape id
    shape_of id w g at typed shaped = let t = shape_of_row w.0 (g, at, typed) shaped in (t.0, ap (option_and_then (type_tree Gs)) w.1 ∙ t.1)

    pub passing : (test : Inst → Bool) → ((g : Inst) → test g ≡ true → is_shapeless g.op ≡ false) → (id : ℕ) → HasType id → value_fails test Gs T id ≡ false → HasItsShape id
    passing test shaped id w off =
        let g = type_row_of id w.0 w.1 in
        let row = row_is s.of entry right w.0 g.0 g.1 g.2 in
        let on : not (test g.0) ≡ false = ap (λ o. option_map_or (λ (x : Inst). not (test x)) o false) (sym row) ∙ (ap (λ o. option_map_or (fails test Gs) o false) (sym w.1) ∙ off) in
        shape_of id w g.0 g.1 g.2 (shaped g.0 (not-false (test g.0) on))

    pub same_type : (ty id : ℕ) → IsRow ty → HasType id → is_other Gs T ty id ≡ false → T id ≡ Some ty
    same_type ty id row w off = w.1 ∙ ap (λ x. Some x) (sym (one_type ty w.0 row (type_row_of id w.0 w.1) (ap (λ o. option_map_or (differ Gs ty) o false) (sym w.1) ∙ off)))

    pub none_counted : (test : Inst → Bool) → ((g : Inst) → is_shapeless g.op ≡ true → test g ≡ false) → (g : Inst) → is_shapeless g.op ≡ true → count_in test Gs g ≡ Some 0
    none_counted test none g shaped =
        ap (λ (b : Bool). if b then option_map (λ (c : Inst). one_if (test c) (word g 1)) (type_row Gs (word g 0)) else Some (one_if (test g) 1)) (shapeless_no_vector g.op shaped) ∙ ap (λ (b : Bool). Some (one_if b 1)) (none g shaped)

    pub counted : (test : Inst → Bool) → ((g : Inst) → is_shapeless g.op ≡ true → test g ≡ false) → (n id : ℕ) → HasType id → (n == 0) ≡ false → is_not n (option_and_then (λ (ty : ℕ). option_and_then (count_in test Gs) (type_row Gs ty)) (T id)) ≡ false → HasItsShape id
    counted test none n id w some off =
        let g = type_row_of id w.0 w.1 in
        let row = row_is s.of entry right w.0 g.0 g.1 g.2 in
        by_shape g.0 g.1 g.2 (is_shapeless g.0.op) refl (ap (λ o. is_not n (option_and_then (count_in test Gs) o)) (sym row) ∙ (ap (λ o. is_not n (option_and_then (λ (ty : ℕ). option_and_then (count_in test Gs) (type_row Gs ty)) o)) (sym w.1) ∙ off))
      where
        by_shape : (g : Inst) → global Gs w.0 ≡ Some g → is_type g ≡ true → (b : Bool) → is_shapeless g.op ≡ b → is_not n (count_in test Gs g) ≡ false → HasItsShape id
        by_shape g at typed false shaped off = shape_of id w g at typed shaped
        by_shape g at typed true shaped off =
            let same = same_count 0 n (ap (is_not n) (sym (none_counted test none g shaped)) ∙ off) in
            clash (sym (ap (λ k. k == 0) (sym same)) ∙ some)
