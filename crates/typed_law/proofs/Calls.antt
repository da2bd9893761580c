-- Calls of a conforming module are typed, and variables begin with values of their types.
use Rattle.std.proofs.Common.{◌≡◌, ◌<◌, ◌≤◌, ◌==◌, ◌||◌, ◌&&◌, not, ℕ, suc, Bool, true, false, List, [], ◌∷◌, length, drop, Option, Some, None, inl, inr, refl, sym, ap, subst, ◌∙◌, if◌then◌else◌, arith}
use Rattle.std.specs.Prelude.{◌⊎◌, find, nat_lt, option_map, option_and_then, unwrap_or, Contains, slice_index}
use Rattle.std.specs.Option.{option_map_or, option_or}
use Rattle.std.specs.List.{list_any, zip}
use Rattle.std.proofs.lemmas.Bool.Decides.{eqb_tells, nat_tests}
use Rattle.std.proofs.lemmas.Bool.{and_from}
use Rattle.std.proofs.lemmas.Option.{same_Some}
use Rattle.spv_ops.specs.Opcode.{is, number}
use Rattle.spv_ops.specs.Groups.{is_constant}
use Rattle.spv_ops.specs.Shape.{shape}
use Rattle.spv_ops.specs.Enumerants.{class_number, storage_classes}
use Rattle.spv_ops.specs.declared.StorageClass.{StorageClass}
use Rattle.spv_ops.specs.declared.StorageClass.TheVariants as storage
use Rattle.spv_ops.specs.declared.Op.{Op}
use Rattle.spv_ops.specs.declared.Op.TheVariants as code
use Rattle.spv_module.specs.Held.{global}
use Rattle.spv_module.specs.Inst.{has_type}
use Rattle.spv_module.specs.declared.inst.Id.{Id}
use Rattle.spv_module.specs.declared.inst.Inst.{Inst}
use Rattle.spv_module.specs.declared.inst.Function.{Function}
use Rattle.spv_types.specs.Tree.{Tree, ValueTree}
use Rattle.spv_types.specs.Types.{type_tree, earlier}
use Rattle.spv_types.specs.Leaves.{zero_of}
use Rattle.spv_decor.specs.Rows.{word}
use Rattle.spv_decor.specs.Decorations.{local_insts}
use Rattle.spv_index.specs.BlockStructs.{is_block_struct, is_some_block}
use Rattle.spv_index.specs.Locals.{insts_of, inst_in, typed, global_type, local_type, type_in}
use Rattle.spv_index.specs.Pointers.{pointee}
use Rattle.op_semantics.specs.Fits.{fits}
use Rattle.profile_rules.specs.declared.needs.Need.TheVariants.{AnyType}
use Rattle.profile_rules.specs.Operands.{type_need, suits, is_there}
use Rattle.profile_rules.specs.Places.{is_variable, is_defined_elsewhere, body_insts}
use Rattle.profile_rules.specs.TypeRows.{differ, is_other}
use Rattle.profile_rules.specs.ValueRules.{are_other_members}
use Rattle.profile_rules.specs.FlowRules.{function_type, is_miscalled, breaks_t21}
use Rattle.profile_rules.specs.Variables.{is_of_other_type, is_other_value}
use Rattle.profile_rules.specs.Entry.{function_of}
use Rattle.list_law.proofs.Numbers.{same_count}
use Rattle.list_law.proofs.Options.{some_by, some_part}
use Rattle.list_law.proofs.Tests.{or_left, or_right, and_off}
use Rattle.plan_law.specs.InOrder.{IsAmong}
use Rattle.plan_law.proofs.Order.{among_left, among_right}
use Rattle.module_semantics.specs.Setting.{Setting, as_variable, global_variable}
use Rattle.module_semantics.specs.Memory.{variable_type, class_of}
use Rattle.module_semantics.specs.Operands.{arg}
use Rattle.module_semantics.specs.Accesses.{initial_by, initial, initial_in, initial_private}
use Rattle.fits_law.specs.State.{target_shape, global_shape, HasShape, IsLocal, VariablesFit, PrivatesFit}
use Rattle.fits_law.specs.Typed.{AreArguments, IsCall}
use Rattle.fits_law.proofs.Parts.{zero_fits}
use Rattle.fits_law.proofs.Steps.{named}
use Rattle.type_law.specs.Shaped.{HasConstants}
use Rattle.type_law.proofs.Constants.{constant_of}
use Rattle.typed_law.specs.Conforms.{IsParameter, IsConforming}
use Rattle.typed_law.proofs.Lists.{found_in, earlier_some}
use Rattle.typed_law.proofs.Rules.{operand_there, global_there, initializer_right, function_class}
use Rattle.typed_law.proofs.Types.{pointee_shaped}
use Rattle.typed_law.proofs.Used.{pointee_sized}
use Rattle.typed_law.proofs.Values.{IsRow, inside, global_row, local_row, parameter_row, result_row, declared_by, IsDeclaredBy, HasType, one_type, same_type, own_type, own_local, variable_type_is, among_functions, function_id, function_need, function_least, type_suits, typed_is, global_typed_some}
use Rattle.typed_law.proofs.Others.{contains_found, callee_is, typed_some}

-- variables of these classes are no blocks
own_class : (class : ℕ) → (class ≡ class_number storage.Function) ⊎ (class ≡ class_number storage.Private) → (heads : List Inst) (id : ℕ) → (is_block_struct heads class id ≡ false) × ((class == class_number storage.Workgroup) ≡ false)
own_class class (inl e) heads id = subst (λ c. (is_block_struct heads c id ≡ false) × ((c == class_number storage.Workgroup) ≡ false)) (sym e) (refl, refl)
own_class class (inr e) heads id = subst (λ c. (is_block_struct heads c id ≡ false) × ((c == class_number storage.Workgroup) ≡ false)) (sym e) (refl, refl)

pub variable_typed : (o : Op) → is o code.Variable ≡ true → has_type o ≡ true
unfolding number shape
variable_typed code.Variable e = refl
variable_typed o e = cc

-- the class of a number
class_found : (n : ℕ) (cs : List StorageClass) (c : StorageClass) → find (λ (d : StorageClass). class_number d == n) cs ≡ Some c → n ≡ class_number c
class_found n [] c e = cc
class_found n (d ∷ cs) c e = by_test (class_number d == n) (eqb_tells (class_number d) n) e (λ rest. class_found n cs c rest)
  where
    by_test : (b : Bool) → ((b ≡ true) × (class_number d ≡ n)) ⊎ ((b ≡ false) × (class_number d ≡ n → ⊥)) → (if b then Some d else find (λ (x : StorageClass). class_number x == n) cs) ≡ Some c → (find (λ (x : StorageClass). class_number x == n) cs ≡ Some c → n ≡ class_number c) → n ≡ class_number c
    by_test true (inl w) e next = sym w.1 ∙ ap class_number (same_Some d c e)
    by_test true (inr w) e next = cc
    by_test false w e next = next e

pub class_is : (v : Inst) (c : StorageClass) → class_of v ≡ Some c → word v 0 ≡ class_number c
class_is v c e = class_found (word v 0) storage_classes c e

-- each argument has the type of the parameter, which is no global
abbrev pub AreOfTypes : Setting → Function → Function → List (Id × Id) → List ℕ → Type 0
AreOfTypes s f g [] ids = Unit {0}
AreOfTypes s f g (p ∷ ps) [] = Unit {0}
AreOfTypes s f g (p ∷ ps) (id ∷ ids) = (type_in s.of.globals g p.0.0 ≡ type_in s.of.globals f id) × IsLocal s p.0.0 × AreOfTypes s f g ps ids

as_arguments : (s : Setting) (f g : Function) (ps : List (Id × Id)) (ids : List ℕ) → AreOfTypes s f g ps ids → AreArguments s f g ps ids
as_arguments s f g [] ids are = tt
as_arguments s f g (p ∷ ps) [] are = tt
as_arguments s f g (p ∷ ps) (id ∷ ids) are =
    (ap (option_and_then (type_tree s.of.globals)) are.0, ap (λ o. option_and_then (type_tree s.of.globals) (option_and_then (pointee s.of.globals) o)) are.0, are.1, as_arguments s f g ps ids are.2)

module _ (s : Setting) (entry : Option (List ℕ)) (right : IsConforming s.of entry) (chosen : ℕ → Option ℕ) (have : HasConstants s chosen) where
  abbrev Gs : List Inst
  Gs = s.of.globals

  -- a variable begins with a value of the type that it points to
  initial_fits : (v : Inst) → IsAmong v (body_insts s.of) → is_variable v ≡ true → (word v 0 ≡ class_number storage.Function) ⊎ (word v 0 ≡ class_number storage.Private) → (q : ℕ) (t : Tree) → pointee Gs v.ty ≡ Some q → type_tree Gs q ≡ Some t → (x : ValueTree) → initial s v ≡ Some x → fits t x ≡ true
  initial_fits v there on of_class q t at shape x e = by_args v.args refl e
    where
      variable_is : type_tree Gs (variable_type s v) ≡ Some t
      variable_is = ap (λ o. type_tree Gs (unwrap_or o 0)) at ∙ shape

      own : (id : ℕ) → (is_block_struct s.of.heads (word v 0) id ≡ false) × ((word v 0 == class_number storage.Workgroup) ≡ false)
      own id = own_class (word v 0) of_class s.of.heads id

      no_block : is_some_block s.of.heads Gs v ≡ false
      no_block = ap (λ o. option_map_or (is_block_struct s.of.heads (word v 0)) o false) at ∙ (own q).0

      by_zero : option_map zero_of (type_tree Gs (variable_type s v)) ≡ Some x → fits t x ≡ true
      by_zero e =
          let same = same_Some (zero_of t) x (ap (option_map zero_of) (sym variable_is) ∙ e) in
          subst (λ y. fits t y ≡ true) same (zero_fits t (pointee_sized s.of entry right v q there on (own 0).1 no_block at t shape))

      by_constant : (class id : ℕ) (rest : List ℕ) → v.args ≡ class ∷ id ∷ rest → s.constants id ≡ Some x → fits t x ≡ true
      by_constant class id rest args e =
          let c = constant_of s chosen have right.results id x e in
          let many : nat_lt 1 (length v.args) ≡ true = ap (λ (l : List ℕ). nat_lt 1 (length l)) args ∙ (let two : nat_lt 1 (suc (suc (length rest))) ≡ true = grind (arith, nat_tests) in two) in
          let off = and_off (is_variable v && nat_lt 1 (length v.args)) (not ((word v 0 == class_number storage.Function) || (word v 0 == class_number storage.Private)) || is_other_value s.of v (word v 1)) (initializer_right s.of entry right v there) (and_from (is_variable v) (nat_lt 1 (length v.args)) on many) in
          let told = or_right (not ((word v 0 == class_number storage.Function) || (word v 0 == class_number storage.Private))) (is_other_value s.of v (word v 1)) off in
          let id_is : word v 1 ≡ id = ap (λ (l : List ℕ). slice_index l 1) args in
          let of_it : (not (is_constant c.0.op) || is_of_other_type Gs v c.0) ≡ false =
          ap (λ o. option_map_or (λ (g : Inst). not (is_constant g.op) || is_of_other_type Gs v g) o (is_defined_elsewhere s.of (word v 1))) (sym c.3) ∙ (ap (λ n. option_map_or (λ (g : Inst). not (is_constant g.op) || is_of_other_type Gs v g) (global Gs n) (is_defined_elsewhere s.of (word v 1))) (sym id_is) ∙ told) in
          let type_is : c.0.ty ≡ q = same_count c.0.ty q (ap (λ o. option_map_or (λ (n : ℕ). not (c.0.ty == n)) o false) (sym at) ∙ or_right (not (is_constant c.0.op)) (is_of_other_type Gs v c.0) of_it) in
          subst (λ y. fits y x ≡ true) (same_Some c.2 t (sym c.4 ∙ (ap (type_tree Gs) type_is ∙ shape))) c.5

      by_args : (args : List ℕ) → v.args ≡ args → initial_by s (type_tree Gs (variable_type s v)) args ≡ Some x → fits t x ≡ true
      by_args [] args e = by_zero e
      by_args (class ∷ []) args e = by_zero e
      by_args (class ∷ id ∷ rest) args e = by_constant class id rest args e

  -- a variable is a pointer to a shape
  variable_points : (v : Inst) → is_variable v ≡ true → (g : Inst) → global Gs v.ty ≡ Some g → suits (type_need v.op) g ≡ true → (q : ℕ) × (t : Tree) × (pointee Gs v.ty ≡ Some q) × (type_tree Gs q ≡ Some t)
  variable_points v on g at suited = pointee_shaped s.of entry right v.ty g at (variable_type_is v.op g on suited)

  -- what is found as a variable is one
  is_the_variable : (g v : Inst) → as_variable g ≡ Some v → (g ≡ v) × (is_variable v ≡ true)
  is_the_variable g v e = by_test (is_variable g) refl e
    where
      by_test : (b : Bool) → is_variable g ≡ b → elim b [ true ↦ Some g | false ↦ None ] ≡ Some v → (g ≡ v) × (is_variable v ≡ true)
      by_test true on e = let same = same_Some g v e in (same, ap is_variable (sym same) ∙ on)
      by_test false on e = cc

  -- the variables of a call at its start
  pub initial_in_fits : (f : Function) → Contains s.of.functions f → VariablesFit s f (initial_in s f)
  initial_in_fits f in_it id x e =
      let v = some_part (initial s) (option_and_then as_variable (inst_in f id)) x e in
      let i = some_part as_variable (inst_in f id) v.0 v.1 in
      let w = is_the_variable i.0 v.0 i.2 in
      let there : IsAmong v.0 (insts_of f) = subst (λ (y : Inst). IsAmong y (insts_of f)) w.0 (found_in (insts_of f) id i.0 i.1) in
      let local = among_functions s.of.functions f v.0 in_it there in
      let some = typed_some s entry right f in_it v.0 there (variable_typed v.0.op w.1) in
      let g = local_row s entry right f in_it v.0 there some in
      let q = variable_points v.0 w.1 g.0 g.1 g.2 in
      let own : v.0.result ≡ id = ap (λ (y : Inst). y.result) (sym w.0) ∙ named (insts_of f) id i.0 i.1 in
      let type_is : type_in Gs f id ≡ Some v.0.ty = ap (type_in Gs f) (sym own) ∙ own_type s entry right f in_it v.0 there some in
      let target : target_shape s f id ≡ Some q.1 = ap (λ o. option_and_then (type_tree Gs) (option_and_then (pointee Gs) o)) type_is ∙ (ap (option_and_then (type_tree Gs)) q.2 ∙ q.3) in
      subst (λ o. HasShape o x) (sym target) (initial_fits v.0 (among_right v.0 Gs (local_insts s.of) local) w.1 (inl (function_class s.of entry right v.0 local w.1)) q.0 q.1 q.2 q.3 x v.2)

  -- a variable of the module
  pub global_variable_is : (id : ℕ) (v : Inst) → global_variable s id ≡ Some v → (global Gs id ≡ Some v) × (is_variable v ≡ true)
  global_variable_is id v e = by_global (global Gs id) refl e
    where
      by_global : (o : Option Inst) → global Gs id ≡ o → elim o [ None ↦ None | Some g ↦ as_variable g ] ≡ Some v → (global Gs id ≡ Some v) × (is_variable v ≡ true)
      by_global None at e = cc
      by_global (Some g) at e = let w = is_the_variable g v e in (at ∙ ap (λ (y : Inst). Some y) w.0, w.1)

  global_some : (v : Inst) → IsAmong v Gs → is_variable v ≡ true → v.ty ≡ 0 → ⊥
  global_some v there on zero_is = global_typed_some s entry right v there (variable_typed v.op on) zero_is

  pub global_points : (id : ℕ) (v : Inst) → global_variable s id ≡ Some v → (q : ℕ) × (t : Tree) × (pointee Gs v.ty ≡ Some q) × (type_tree Gs q ≡ Some t) × (global_shape s id ≡ Some t)
  global_points id v e =
      let w = global_variable_is id v e in
      let there = found_in Gs id v w.0 in
      let some = global_some v there w.1 in
      let g = global_row s entry right v there some in
      let q = variable_points v w.1 g.0 g.1 g.2 in
      let type_is : global_type Gs id ≡ Some v.ty = ap (option_and_then typed) w.0 ∙ typed_is v some in
      (q.0, q.1, q.2, q.3, ap (λ o. option_and_then (type_tree Gs) (option_and_then (pointee Gs) o)) type_is ∙ (ap (option_and_then (type_tree Gs)) q.2 ∙ q.3))

  -- the Private variables at the start of a run
  pub initial_private_fits : PrivatesFit s (initial_private s)
  initial_private_fits id x v is_it class e =
      let w = global_variable_is id v is_it in
      let q = global_points id v is_it in
      let begins : initial s v ≡ Some x = ap (option_and_then (initial s)) (sym is_it) ∙ e in
      subst (λ o. HasShape o x) (sym q.4) (initial_fits v (among_left v Gs (local_insts s.of) (found_in Gs id v w.0)) w.1 (inr (class_is v storage.Private class)) q.0 q.1 q.2 q.3 x begins)

  module _ (f : Function) (in_it : Contains s.of.functions f) where
    abbrev V : ℕ → Option ℕ
    V = type_in s.of.globals f

    abbrev IsTypedId : ℕ → Type 0
    IsTypedId id = HasType s entry right f in_it id

    -- an argument is what the parameter is
    argument_is : (g : Function) → Contains s.of.functions g → (p : Id × Id) → IsParameter p g.params → (id : ℕ) → V id ≡ Some p.1.0 → (type_in Gs g p.0.0 ≡ V id) × IsLocal s p.0.0
    argument_is g g_in p there id at =
        let outside = (inside s entry right g g_in).outside p there in
        let found = (inside s entry right g g_in).found p there in
        (ap (λ o. option_or (option_and_then typed o) (local_type g p.0.0)) outside ∙ (ap (λ o. option_or o (option_and_then typed (inst_in g p.0.0))) found ∙ sym at), outside)

    arguments_are : (g : Function) → Contains s.of.functions g → (ps : List (Id × Id)) → ((p : Id × Id) → IsParameter p ps → IsParameter p g.params) → (tys ids : List ℕ) → length ps ≡ length tys → length ids ≡ length tys
        → ((k : ℕ) → k < length tys → IsRow s entry right (slice_index tys k)) → ((k : ℕ) → k < length ids → IsTypedId (slice_index ids k))
        → list_any (λ (p : ℕ × (Id × Id)). differ Gs p.0 p.1.1.0) (zip tys ps) ≡ false → list_any (λ (p : ℕ × ℕ). is_other Gs V p.0 p.1) (zip tys ids) ≡ false → AreOfTypes s f g ps ids
    arguments_are g g_in [] sub tys ids many as_many rows typed_ids params args = tt
    arguments_are g g_in (p ∷ ps) sub [] ids many as_many rows typed_ids params args = absurd (omega (arith, many))
    arguments_are g g_in (p ∷ ps) sub (ty ∷ tys) [] many as_many rows typed_ids params args = absurd (omega (arith, as_many))
    arguments_are g g_in (p ∷ ps) sub (ty ∷ tys) (id ∷ ids) many as_many rows typed_ids params args =
        let row = rows 0 (let less : 0 < suc (length tys) = omega arith in less) in
        let same : ty ≡ p.1.0 = one_type s entry right f in_it ty p.1.0 row (parameter_row s entry right g g_in p (sub p (inl refl))) (or_left (differ Gs ty p.1.0) (list_any (λ (r : ℕ × (Id × Id)). differ Gs r.0 r.1.1.0) (zip tys ps)) params) in
        let at : V id ≡ Some ty = same_type s entry right f in_it ty id row (typed_ids 0 (let less : 0 < suc (length ids) = omega arith in less)) (or_left (is_other Gs V ty id) (list_any (λ (r : ℕ × ℕ). is_other Gs V r.0 r.1) (zip tys ids)) args) in
        let w = argument_is g g_in p (sub p (inl refl)) id (at ∙ ap (λ x. Some x) same) in (
          w.0,
          w.1,
          arguments_are g g_in ps (λ r there. sub r (inr there)) tys ids (let rest : length ps ≡ length tys = omega (arith, many) in rest) (let rest : length ids ≡ length tys = omega (arith, as_many) in rest)
              (λ k less. rows (suc k) (let more : suc k < suc (length tys) = omega (arith, less) in more)) (λ k less. typed_ids (suc k) (let more : suc k < suc (length ids) = omega (arith, less) in more))
              (or_right (differ Gs ty p.1.0) (list_any (λ (r : ℕ × (Id × Id)). differ Gs r.0 r.1.1.0) (zip tys ps)) params) (or_right (is_other Gs V ty id) (list_any (λ (r : ℕ × ℕ). is_other Gs V r.0 r.1) (zip tys ids)) args),
        )

    -- the types that an OpTypeFunction names
    type_named : (gt : Inst) → IsAmong gt Gs → is gt.op code.TypeFunction ≡ true → (k : ℕ) → k < length gt.args → IsRow s entry right (slice_index gt.args k)
    type_named gt there on k less =
        let has = operand_there (is_there Gs gt.at) gt (global_there s.of entry right gt there) k less (function_id gt.op gt.args k on) in
        let h = some_by (suits AnyType) (earlier Gs gt.at (slice_index gt.args k)) (subst (λ q. is_there Gs gt.at q (slice_index gt.args k) ≡ true) (function_need gt.op k on) has) in
        (h.0, (earlier_some Gs gt.at (slice_index gt.args k) h.0 h.1).0, h.2)

    dropped : (P : ℕ → Type 0) (args : List ℕ) → ((k : ℕ) → 1 ≤ k → k < length args → P (slice_index args k)) → (k : ℕ) → k < length (drop 1 args) → P (slice_index (drop 1 args) k)
    dropped P [] each k less = absurd (omega (arith, less))
    dropped P (a ∷ args) each k less = each (suc k) (let low : 1 ≤ suc k = omega arith in low) (let more : suc k < suc (length args) = omega (arith, less) in more)

    -- T21: arguments have the types of parameters, and the result that of the callee
    module _ (i : Inst) (there : IsAmong i (insts_of f)) (has : has_type i.op ≡ true) (off : breaks_t21 s.of.functions Gs V i ≡ false) (typed_ids : (k : ℕ) → 1 ≤ k → k < length i.args → IsTypedId (slice_index i.args k)) (g : Function) (at : function_of s.of.functions (arg i 0) ≡ Some g) where
      g_in : Contains s.of.functions g
      g_in = contains_found s.of.functions (arg i 0) g at

      declared : (d : Inst) × IsDeclaredBy s entry right g g_in d
      declared = declared_by s entry right g g_in

      told : is_miscalled Gs V i declared.0 ≡ false
      told =
          ap (λ o. option_map_or (is_miscalled Gs V i) o false) (sym declared.1.is_it) ∙ (ap (λ o. option_map_or (is_miscalled Gs V i) (option_and_then (function_type Gs) o) false) (sym (callee_is s.of.functions (arg i 0) g at)) ∙ off)

      pub arguments_typed : AreOfTypes s f g g.params (drop 1 i.args)
      arguments_typed =
          let d = declared in
          let members = or_right (differ Gs (word d.0 0) i.ty) (are_other_members Gs V (drop 1 d.0.args) (drop 1 i.args)) told in
          let few = not (length (drop 1 i.args) == length (drop 1 d.0.args)) in
          let others = list_any (λ (p : ℕ × ℕ). is_other Gs V p.0 p.1) (zip (drop 1 d.0.args) (drop 1 i.args)) in
          arguments_are g g_in g.params (λ p p_in. p_in) (drop 1 d.0.args) (drop 1 i.args) d.1.many (same_count (length (drop 1 i.args)) (length (drop 1 d.0.args)) (or_left few others members))
          (dropped (IsRow s entry right) d.0.args (λ k low less. type_named d.0 d.1.there d.1.on k less)) (dropped IsTypedId i.args typed_ids) d.1.each (or_right few others members)

      pub as_call : IsCall s f g i
      as_call =
          let d = declared in
          let some = typed_some s entry right f in_it i there has in
          let row = local_row s entry right f in_it i there some in
          let first = type_named d.0 d.1.there d.1.on 0 (function_least d.0.op (length d.0.args) d.1.on (right.formed d.0 d.1.there).least) in
          let of_call : word d.0 0 ≡ i.ty = one_type s entry right f in_it (word d.0 0) i.ty first (row.0, row.1, type_suits i.op row.0 row.2) (or_left (differ Gs (word d.0 0) i.ty) (are_other_members Gs V (drop 1 d.0.args) (drop 1 i.args)) told) in
          let of_callee : word d.0 0 ≡ g.result.0 = one_type s entry right f in_it (word d.0 0) g.result.0 first (result_row s entry right g g_in) d.1.result in
          record {
            arguments = as_arguments s f g g.params (drop 1 i.args) arguments_typed;
            result = ap (option_and_then (type_tree Gs)) (own_type s entry right f in_it i there some) ∙ ap (type_tree Gs) (sym of_call ∙ of_callee);
            variables = initial_in_fits g g_in;
            local = own_local s entry right f in_it i there;
          }
