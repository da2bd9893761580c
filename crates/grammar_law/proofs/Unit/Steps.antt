-- The steps of a chain, as they are written: each leads to a part whose members have names, where the type before has.
use Rattle.std.proofs.Common.{◌≡◌, ◌==◌, ◌||◌, ℕ, Bool, true, false, List, ◌∷◌, length, Option, Some, None, nat_lt, is_some, inl, refl, sym, ap, ◌∙◌, subst, if◌then◌else◌}
use Rattle.std.specs.Prelude.{slice_get, slice_index, option_and_then}
use Rattle.std.specs.Option.{option_map_or}
use Rattle.std.proofs.lemmas.Bool.{or_right}
use Rattle.std.proofs.lemmas.Option.{same_Some}
use Rattle.spv_ops.specs.Opcode.{is, number}
use Rattle.spv_ops.specs.declared.Op.{Op}
use Rattle.spv_ops.specs.declared.Op.TheVariants as code
use Rattle.spv_module.specs.Held.{global}
use Rattle.spv_module.specs.Lists.{id}
use Rattle.spv_module.specs.declared.inst.Inst.{Inst}
use Rattle.spv_module.specs.declared.inst.Function.{Function}
use Rattle.spv_module.specs.declared.tree.Elem.{Elem}
use Rattle.spv_module.specs.declared.tree.Elem.TheVariants as elem
use Rattle.spv_types.specs.Tree.{Tree, boolean, int, uint, vector, array, runtime, struct, Trees}
use Rattle.spv_types.specs.Types.{all_trees, tree_before, type_tree}
use Rattle.spv_decor.specs.Rows.{word}
use Rattle.spv_index.specs.Locals.{type_in}
use Rattle.spv_index.specs.Steps.{constant_word, member_type, step_by, step_type, is_struct}
use Rattle.op_semantics.specs.Fits.{elem_tree}
use Rattle.profile_rules.specs.declared.needs.Reached.{Reached}
use Rattle.profile_rules.specs.declared.needs.Reached.TheVariants.{Part, Nothing, Unknown}
use Rattle.profile_rules.specs.TypeRows.{is_type, if_type, type_row}
use Rattle.profile_rules.specs.ValueRules.{nth_member, member_by, chain_part, chain_step}
use Rattle.conformance.specs.Rules.{Options}
use Rattle.module_semantics.specs.Setting.{Setting}
use Rattle.module_semantics.specs.Memory.{part_by, part_type}
use Rattle.access_paths.specs.declared.forms.Step.{Step}
use Rattle.access_paths.specs.declared.forms.Step.TheVariants as way
use Rattle.access_paths.specs.Ways.{Spot, is_constant_index, index_step, step}
use Rattle.name_alloc.specs.declared.claims.Key.TheVariants.{Member, Captured}
use Rattle.name_alloc.specs.Naming.{name_of}
use Rattle.glsl_ast.specs.Tree as text
use Rattle.glsl_ast.specs.Tree.{Expr, TranslationUnit, LStep}
use Rattle.vec_lowering.specs.Component.{axis_name}
use Rattle.text_rules.specs.Printed.{has_struct, have_struct}
use Rattle.expr_forward.specs.Scope.{Setting as Place}
use Rattle.expr_forward.specs.Paths as paths
use Rattle.expr_forward.specs.Paths.{word_at, index_expr, vector_size, index_by, step_text}
use Rattle.unit_rules.specs.Translation.{Naming, text_of}
use Rattle.unit_rules.specs.Unit.{IsUnitOf}
use Rattle.list_law.proofs.Numbers.{less_of, number_same}
use Rattle.list_law.proofs.Lists.{index_get}
pub use Rattle.list_law.proofs.Lists.{index_get as at_index}
use Rattle.claim_law.specs.Uses.{Words, UsesExpr, UseSteps}
use Rattle.fits_law.specs.State.{element_shape}
use Rattle.type_law.proofs.Parts.{row, all_nth}
use Rattle.type_law.proofs.Places.{part_leads}
use Rattle.global_law.proofs.Path.Types.{op_of, declared_as, is_struct_shape, struct_by, struct_number}
use Rattle.typed_law.specs.Conforms.{IsConforming}
use Rattle.typed_law.proofs.Used.{global_found}
use Rattle.claim_law.specs.Claimed.{HasName}
use Rattle.claim_law.proofs.Claim.Told.{named_is, axes_told}
use Rattle.grammar_law.specs.Words.{words_of}
use Rattle.grammar_law.proofs.Unit.Lists.{as_among}
use Rattle.grammar_law.proofs.Unit.Types.{of_types}
use Rattle.grammar_law.proofs.Unit.Structs.{HasNames, part_named}
use Rattle.grammar_law.proofs.Unit.Parts.{nth_has, Here}

pub elem_free : (t : Tree) (k : ℕ) (v : Tree) (n : ℕ) → element_shape t k ≡ Some v → has_struct n v ≡ true → has_struct n t ≡ true
elem_free boolean k v n at has = cc
elem_free int k v n at has = cc
elem_free uint k v n at has = cc
elem_free (vector e m) k v n at has = by_elem (sym (ap (has_struct n) (same_Some (elem_tree e) v at)))
  where
    by_elem : has_struct n v ≡ has_struct n (elem_tree e) → has_struct n (vector e m) ≡ true
    by_elem same = never e (sym same ∙ has)
      where
        never : (e : Elem) → has_struct n (elem_tree e) ≡ true → false ≡ true
        never elem.Bool on = on
        never elem.Int on = on
        never elem.Uint on = on
elem_free (array t l) k v n at has = ap (has_struct n) (same_Some t v at) ∙ has
elem_free (runtime t) k v n at has = ap (has_struct n) (same_Some t v at) ∙ has
elem_free (struct m ts) k v n at has = or_right (m == n) (have_struct n ts) (nth_has ts k v n at has)

module _ (s : Setting) (entry : Option (List ℕ)) (right : IsConforming s.of entry) (f : Function) (o : Options) (unit : TranslationUnit) (u : IsUnitOf s.of o unit) (names : List (List ℕ)) (read : ℕ → Option Expr) where
  abbrev Gs : List Inst
  Gs = s.of.globals

  abbrev T : ℕ → Option ℕ
  T = type_in s.of.globals f

  abbrev Found : Naming
  Found = name_of u.claimed

  abbrev W : Words
  W = words_of s.of.globals (name_of u.claimed) names

  abbrev pub Site : Place
  Site = Here s entry right f o unit u names read

  -- the members of a struct have names, and the structs in its parts are written
  pub record HasMembers (ty : ℕ) (t : Tree) : Type 0 where
    pub shaped : type_tree Gs ty ≡ Some t
    pub own : (g : Inst) → global Gs ty ≡ Some g → is g.op code.TypeStruct ≡ true → (k x : ℕ) → slice_get g.args k ≡ Some x → HasName Found (Member (id ty) k)
    pub parts : (k : ℕ) (v : Tree) → element_shape t k ≡ Some v → HasNames s.of o unit u v

  -- so it is where the structs of a type are written
  pub named_members : (ty : ℕ) (t : Tree) → type_tree Gs ty ≡ Some t → HasNames s.of o unit u t → HasMembers ty t
  named_members ty t shaped has = record { shaped = shaped; own = own_by t shaped has; parts = λ k v at n there. has n (elem_free t k v n at there) }
    where
      own_by : (t : Tree) → type_tree Gs ty ≡ Some t → HasNames s.of o unit u t → (g : Inst) → global Gs ty ≡ Some g → is g.op code.TypeStruct ≡ true → (k x : ℕ) → slice_get g.args k ≡ Some x → HasName Found (Member (id ty) k)
      own_by t shaped has g at on k x arg = by_shape t shaped has (sym (ap (λ (h : Option Inst). option_map_or (λ (y : Inst). is y.op code.TypeStruct) h false) at ∙ on) ∙ struct_by s ty t shaped)
        where
          by_shape : (t : Tree) → type_tree Gs ty ≡ Some t → HasNames s.of o unit u t → true ≡ is_struct_shape s t → HasName Found (Member (id ty) k)
          by_shape (struct n ts) shaped has e =
              let w = has n (ap (λ (b : Bool). b || have_struct n ts) (number_same n n refl)) in
              let ty_is : w.ty.result ≡ ty = w.result ∙ struct_number s ty n ts shaped in
              let same : w.ty ≡ g = same_Some w.ty g (sym (global_found s.of entry right w.ty (as_among Gs w.ty w.among)) ∙ (ap (global Gs) ty_is ∙ at)) in
              subst (λ (q : ℕ). HasName Found (Member (id q) k)) ty_is (part_named s.of o unit u w.ty k x w.among w.is_struct w.written (subst (λ (y : Inst). slice_get y.args k ≡ Some x) (sym same) arg))
          by_shape t shaped has e = cc

  -- an index that is written: as it is here, or as it was at its chain
  pub record IsWritable (spot : Spot) (k n : ℕ) : Type 0 where
    pub now : (is_constant_index Gs n || (spot.stands == spot.printed)) ≡ true → UsesExpr W (index_expr Site n)
    pub before : (is_constant_index Gs n || (spot.stands == spot.printed)) ≡ false → W.value (text_of Found (Captured (id spot.chain) k))

  -- one step leads to a part
  pub record IsStep (spot : Spot) (k ty n : ℕ) : Type 0 where
    pub to : ℕ
    pub whole : Tree
    pub leads : chain_step Gs T ty n ≡ Part to
    pub text_type : paths.step_type Site ty (step Gs spot k n (Some ty)) ≡ to
    pub next : step_type Gs n ty ≡ Some to
    pub members : HasMembers to whole
    pub uses : (ss : List LStep) → UseSteps W ss → UseSteps W (step_text Site ty (step Gs spot k n (Some ty)) ∷ ss)

  module _ (spot : Spot) (k ty n : ℕ) (t : Tree) (has : HasMembers ty t) (writable : IsWritable spot k n) (typed : is_some (T n) ≡ true) (leads : chain_step Gs T ty n ≡ Nothing → ⊥) where
    declared : (g : Inst) × (global Gs ty ≡ Some g) × (g.op ≡ op_of t) × (g.result ≡ ty)
    declared = declared_as s ty t has.shaped

    abbrev G : Inst
    G = declared.0

    row_is : type_row Gs ty ≡ Some G
    row_is =
        let r = row s f ty t has.shaped in
        let known : if_type G ≡ Some r.0 = sym (ap (option_and_then if_type) declared.1) ∙ r.1 in
        ap (option_and_then if_type) declared.1 ∙ by_test (is_type G) known
      where
        by_test : {h : Inst} (b : Bool) → (if b then Some G else None) ≡ Some h → (if b then Some G else None) ≡ Some G
        by_test true e = refl
        by_test false e = cc

    abbrev part_for : Op → Reached
    part_for c = if is c code.TypeStruct then member_by Gs T G n else (if is c code.TypeVector || (is c code.TypeArray) || is c code.TypeRuntimeArray then Part (word G 0) else Nothing)

    chain_is : chain_step Gs T ty n ≡ part_for (op_of t)
    chain_is = ap (λ (q : Option Inst). option_map_or (λ (g : Inst). chain_part Gs T g n) q Unknown) row_is ∙ ap part_for declared.2

    next_is : step_type Gs n ty ≡ step_by Gs n G (op_of t)
    next_is = ap (λ (q : Option Inst). option_and_then (λ (g : Inst). step_by Gs n g g.op) q) declared.1 ∙ ap (step_by Gs n G) declared.2

    part_is : (i : ℕ) → part_type s ty i ≡ part_by (op_of t) G.args i
    part_is i = ap (λ (q : Option Inst). option_map_or (λ (g : Inst). part_by g.op g.args i) q 0) declared.1 ∙ ap (λ (c : Op). part_by c G.args i) declared.2

    -- an index of a vector or an array
    indexed : step Gs spot k n (Some ty) ≡ index_step Gs spot k n → chain_step Gs T ty n ≡ Part (slice_index G.args 0) → step_type Gs n ty ≡ Some (slice_index G.args 0) → (v : Tree) → element_shape t 0 ≡ Some v → part_by (op_of t) G.args 0 ≡ slice_index G.args 0 → IsStep spot k ty n
    indexed same to next v part args = record {
      to = slice_index G.args 0;
      whole = v;
      leads = to;
      text_type = ap (paths.step_type Site ty) same ∙ (by_test (is_constant_index Gs n || (spot.stands == spot.printed)) ∙ ap (λ (q : Option Inst). option_map_or (λ (g : Inst). slice_index g.args 0) q 0) declared.1);
      next = next;
      members = named_members (slice_index G.args 0) v (ap (type_tree Gs) (sym (part_is 0 ∙ args)) ∙ part_leads s ty 0 t v has.shaped part) (has.parts 0 v part);
      uses = λ ss rest. subst (λ (q : Step). UseSteps W (step_text Site ty q ∷ ss)) (sym same) (by_use (is_constant_index Gs n || (spot.stands == spot.printed)) refl ss rest);
    }
      where
        by_test : (b : Bool) → paths.step_type Site ty (if b then way.Index (id n) else way.Captured (id spot.chain) k) ≡ option_map_or (λ (g : Inst). slice_index g.args 0) (global Gs ty) 0
        by_test true = refl
        by_test false = refl

        by_word : (q : Option ℕ) → UsesExpr W (index_expr Site n) → (ss : List LStep) → UseSteps W ss → UseSteps W (index_by Site (vector_size Site ty) n q ∷ ss)
        by_word None uses ss rest = (uses, rest)
        by_word (Some i) uses ss rest = by_size (nat_lt i (vector_size Site ty))
          where
            by_size : (b : Bool) → UseSteps W ((if b then text.LStep.member (axis_name i) else text.LStep.index (index_expr Site n)) ∷ ss)
            by_size true = (axes_told Found i, rest)
            by_size false = (uses, rest)

        by_use : (b : Bool) → (is_constant_index Gs n || (spot.stands == spot.printed)) ≡ b → (ss : List LStep) → UseSteps W ss → UseSteps W (step_text Site ty (if b then way.Index (id n) else way.Captured (id spot.chain) k) ∷ ss)
        by_use true is_now ss rest = by_word (word_at Site n) (writable.now is_now) ss rest
        by_use false is_now ss rest = (writable.before is_now, rest)

    -- no member's
    not_member : (b : Bool) → is_struct Gs ty ≡ b → b ≡ false → step Gs spot k n (Some ty) ≡ index_step Gs spot k n
    not_member b is_it off = ap (λ (q : Bool). option_map_or way.Member (if q then constant_word Gs n else None) (index_step Gs spot k n)) (is_it ∙ off)

    -- a member of a struct
    membered : (m : ℕ) (ts : Trees) → t ≡ struct m ts → chain_step Gs T ty n ≡ member_by Gs T G n → step_type Gs n ty ≡ member_type G (constant_word Gs n) → is G.op code.TypeStruct ≡ true → ((i : ℕ) → part_type s ty i ≡ slice_index G.args i) → IsStep spot k ty n
    membered m ts shape to next on part = by_constant (constant_word Gs n) refl
      where
        struct_is : is_struct Gs ty ≡ true
        struct_is = ap (λ (q : Option Inst). option_map_or (λ (g : Inst). is g.op code.TypeStruct) q false) declared.1 ∙ on

        own_parts : all_trees (tree_before Gs G.at) G.args ≡ Some ts
        own_parts =
            let whole : type_tree Gs ty ≡ Some (struct m ts) = has.shaped ∙ ap (λ (x : Tree). Some x) shape in
            let w = (of_types Gs ty (struct m ts) whole).0 in
            let ty_is : w.ty.result ≡ ty = w.result ∙ struct_number s ty m ts whole in
            let same : w.ty ≡ G = same_Some w.ty G (sym (global_found s.of entry right w.ty (as_among Gs w.ty w.among)) ∙ (ap (global Gs) ty_is ∙ declared.1)) in
            subst (λ (x : Inst). all_trees (tree_before Gs x.at) x.args ≡ Some ts) same w.parts

        by_less : (i : ℕ) → constant_word Gs n ≡ Some i → (b : Bool) → nat_lt i (length G.args) ≡ b → chain_step Gs T ty n ≡ (if b then Part (word G i) else Nothing) → IsStep spot k ty n
        by_less i told false less is_it = absurd (leads is_it)
        by_less i told true less is_it =
            let low = less_of i (length G.args) less in
            let arg = index_get G.args i low in
            let v = all_nth (tree_before Gs G.at) G.args ts i own_parts less in
            let element : element_shape t i ≡ Some v.0 = ap (λ (x : Tree). element_shape x i) shape ∙ v.2 in
            let taken : step Gs spot k n (Some ty) ≡ way.Member i =
            ap (λ (q : Bool). option_map_or way.Member (if q then constant_word Gs n else None) (index_step Gs spot k n)) struct_is ∙ ap (λ (q : Option ℕ). option_map_or way.Member q (index_step Gs spot k n)) told in
            record {
              to = slice_index G.args i;
              whole = v.0;
              leads = is_it;
              text_type = ap (paths.step_type Site ty) taken ∙ ap (λ (q : Option Inst). option_map_or (λ (g : Inst). slice_index g.args i) q 0) declared.1;
              next = next ∙ (ap (member_type G) told ∙ arg);
              members = named_members (slice_index G.args i) v.0 (ap (type_tree Gs) (sym (part i)) ∙ part_leads s ty i t v.0 has.shaped element) (has.parts i v.0 element);
              uses = λ ss rest. subst (λ (q : Step). UseSteps W (step_text Site ty q ∷ ss)) (sym taken) (inl (Member (id ty) i, named_is Found (Member (id ty) i) (has.own G declared.1 on i (slice_index G.args i) arg)), rest);
            }

        by_constant : (q : Option ℕ) → constant_word Gs n ≡ q → IsStep spot k ty n
        by_constant None told = absurd (leads (to ∙ (ap (λ (q : Option ℕ). option_map_or (nth_member G) q (if is_some (T n) then Nothing else Unknown)) told ∙ ap (λ (b : Bool). if b then Nothing else Unknown) typed)))
        by_constant (Some i) told = by_less i told (nat_lt i (length G.args)) refl (to ∙ ap (λ (q : Option ℕ). option_map_or (nth_member G) q (if is_some (T n) then Nothing else Unknown)) told)

    by_shape : (x : Tree) → t ≡ x → chain_step Gs T ty n ≡ part_for (op_of x) → step_type Gs n ty ≡ step_by Gs n G (op_of x) → ((i : ℕ) → part_type s ty i ≡ part_by (op_of x) G.args i) → is G.op code.TypeStruct ≡ is (op_of x) code.TypeStruct → IsStep spot k ty n
    unfolding number
    by_shape boolean shape to next part op = absurd (leads to)
    by_shape int shape to next part op = absurd (leads to)
    by_shape uint shape to next part op = absurd (leads to)
    by_shape (vector e m) shape to next part op = indexed (not_member (is_struct_shape s t) (struct_by s ty t has.shaped) (ap (is_struct_shape s) shape)) to next (elem_tree e) (ap (λ (x : Tree). element_shape x 0) shape) (ap (λ (x : Tree). part_by (op_of x) G.args 0) shape)
    by_shape (array v l) shape to next part op = indexed (not_member (is_struct_shape s t) (struct_by s ty t has.shaped) (ap (is_struct_shape s) shape)) to next v (ap (λ (x : Tree). element_shape x 0) shape) (ap (λ (x : Tree). part_by (op_of x) G.args 0) shape)
    by_shape (runtime v) shape to next part op = indexed (not_member (is_struct_shape s t) (struct_by s ty t has.shaped) (ap (is_struct_shape s) shape)) to next v (ap (λ (x : Tree). element_shape x 0) shape) (ap (λ (x : Tree). part_by (op_of x) G.args 0) shape)
    by_shape (struct m ts) shape to next part op = membered m ts shape to next op part

    pub one_step : IsStep spot k ty n
    one_step = by_shape t refl chain_is next_is part_is (ap (λ (c : Op). is c code.TypeStruct) declared.2)
