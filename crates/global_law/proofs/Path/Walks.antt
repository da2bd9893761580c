-- The steps that are written of a chain's indexes lead to the part to which the indexes lead.
use Rattle.std.proofs.Common.{◌≡◌, ◌<◌, ◌≤◌, ◌==◌, ◌||◌, ◌+◌, ◌++◌, ◌^◌, ℕ, zero, suc, Bool, true, false, List, [], ◌∷◌, Option, Some, None, inl, inr, refl, sym, ap, ◌∙◌, subst, arith, if◌then◌else◌}
use Rattle.std.specs.Prelude.{◌⊎◌, is_some, nat_lt, option_and_then, slice_index}
use Rattle.std.specs.Option.{option_map_or}
use Rattle.std.proofs.lemmas.Bool.{and_parts}
use Rattle.std.proofs.lemmas.Option.{same_Some}
use Rattle.spv_ops.specs.Opcode.{is, number}
use Rattle.spv_ops.specs.declared.Op.TheVariants as code
use Rattle.spv_module.specs.Lists.{id}
use Rattle.spv_module.specs.declared.inst.Inst.{Inst}
use Rattle.spv_module.specs.declared.inst.Function.{Function}
use Rattle.spv_module.specs.declared.tree.Elem.{Elem}
use Rattle.spv_module.specs.declared.tree.Elem.TheVariants as elem
use Rattle.spv_types.specs.Tree as plain
use Rattle.spv_types.specs.Tree.{Tree, Trees}
use Rattle.spv_types.specs.Types.{type_tree}
use Rattle.spv_index.specs.Steps.{constant_word, step_type, is_struct}
use Rattle.spv_index.specs.BlockStructs.{is_block}
use Rattle.op_semantics.specs.Fits.{elem_tree}
use Rattle.profile_rules.specs.declared.given.Given.{Given}
use Rattle.traces.specs.Outcomes.{Result, got, with_before, then_get, or_stuck}
use Rattle.module_semantics.specs.Setting.{Setting}
use Rattle.module_semantics.specs.Memory.{part_by, part_type, type_along, is_allowed, are_allowed}
use Rattle.module_semantics.specs.State.{Root, Conf}
use Rattle.name_alloc.specs.declared.claims.Key.{Key}
use Rattle.name_alloc.specs.declared.claims.Key.TheVariants.{Captured}
use Rattle.access_paths.specs.declared.forms.Step.{Step}
use Rattle.access_paths.specs.declared.forms.Step.TheVariants as steps_of
use Rattle.access_paths.specs.Ways.{Spot, is_constant_index, index_step, step, steps_from}
use Rattle.glsl_ast.specs.Tree.{Text, Expr, name, LStep}
use Rattle.glsl_semantics.specs.Shapes.{Typed}
use Rattle.glsl_semantics.specs.States.{State, Thing, named_part, member_of, element_of}
use Rattle.glsl_semantics.specs.Expressions.{Program, Argument, then_fetch, denote, steps}
use Rattle.vec_lowering.specs.Component.{axis_name}
use Rattle.expr_forward.specs.Scope as scope
use Rattle.expr_forward.specs.Paths as paths
use Rattle.expr_forward.specs.Paths.{word_at, index_expr, components, vector_size, index_by, step_text, part, steps_text, further}
use Rattle.list_law.proofs.Options.{some_of}
use Rattle.list_law.proofs.Numbers.{less_of}
use Rattle.list_law.proofs.Lists.{none_behind, joined}
use Rattle.list_law.proofs.Tests.{clash}
use Rattle.fits_law.specs.Takes.{nth_of}
use Rattle.fits_law.specs.State.{element_shape}
use Rattle.type_law.specs.Shaped.{AreConstants}
use Rattle.type_law.proofs.Places.{part_leads}
use Rattle.lowering_law.proofs.Saying.{on_operand}
use Rattle.lowering_law.proofs.Components.{axis_part}
use Rattle.global_law.specs.Parts.{StructNames, HasMembersApart, HaveMembersApart, IsInside, IsPart}
use Rattle.global_law.specs.Walks.{writing, struct_names, SaysIndex, Walks, IsIndex, AreIndexes, ByConstants}
use Rattle.global_law.proofs.Path.Parts.{part_shape, named_is, IsIndexed, indexed_is, field_named}
use Rattle.global_law.proofs.Path.Types.{allowed_is, op_of, declared_as, is_struct_shape, struct_by, vector_size_is, struct_number, step_type_is}

no_array : is code.TypeArray code.TypeVector ≡ false
unfolding number
no_array = refl

no_runtime : is code.TypeRuntimeArray code.TypeVector ≡ false
unfolding number
no_runtime = refl

yes_vector : is code.TypeVector code.TypeVector ≡ true
unfolding number
yes_vector = refl

-- members are apart in a part, where they are in the whole
scalar_apart : (y : StructNames) (e : Elem) → HasMembersApart y (elem_tree e)
scalar_apart y elem.Bool = tt
scalar_apart y elem.Int = tt
scalar_apart y elem.Uint = tt

nth_apart : (y : StructNames) (ts : Trees) (i : ℕ) (u : Tree) → HaveMembersApart y ts → nth_of ts i ≡ Some u → HasMembersApart y u
nth_apart y plain.no_trees i u h at = cc
nth_apart y (plain.tree t ts) zero u h at = subst (HasMembersApart y) (same_Some t u at) h.0
nth_apart y (plain.tree t ts) (suc i) u h at = nth_apart y ts i u h.1 at

pub part_apart : (y : StructNames) (t u : Tree) (i : ℕ) → HasMembersApart y t → element_shape t i ≡ Some u → HasMembersApart y u
part_apart y (plain.vector e n) u i h at = subst (HasMembersApart y) (same_Some (elem_tree e) u at) (scalar_apart y e)
part_apart y (plain.array t l) u i h at = subst (HasMembersApart y) (same_Some t u at) h
part_apart y (plain.runtime t) u i h at = subst (HasMembersApart y) (same_Some t u at) h
part_apart y (plain.struct n ts) u i h at = nth_apart y ts i u h.1 at
part_apart y plain.boolean u i h at = cc
part_apart y plain.int u i h at = cc
part_apart y plain.uint u i h at = cc

module _ (p : Program) (calls : Text → List Argument → State → Result (Option Typed × State)) (z : State) where
  -- as the left side of an assignment, and as an expression
  pub steps_walk : (ls : List LStep) (x y : Thing) → Walks p calls z ls x y → steps p calls x ls z ≡ got [] (y, z)
  steps_walk [] x y w = ap (λ a. got [] (a, z)) w
  steps_walk (LStep.member m ∷ ls) x y w = ap (λ o. or_stuck o (λ a. steps p calls a ls z)) w.1 ∙ steps_walk ls w.0 y w.2
  steps_walk (LStep.index e ∷ ls) x y w =
      ap (λ g. then_get g (λ v. or_stuck (element_of x v.0) (λ a. steps p calls a ls v.1))) w.2
      ∙ (ap (λ o. with_before [] (or_stuck o (λ a. steps p calls a ls z))) w.3 ∙ ap (with_before []) (steps_walk ls w.1 y w.4))

  pub further_walk : (ls : List LStep) (e : Expr) (x y : Thing) → denote p calls e z ≡ got [] (x, z) → Walks p calls z ls x y → denote p calls (further e ls) z ≡ got [] (y, z)
  further_walk [] e x y is w = is ∙ ap (λ a. got [] (a, z)) w
  further_walk (LStep.member m ∷ ls) e x y is w =
      further_walk ls (Expr.member e m) w.0 y
      (ap (λ g. then_get g (λ a. or_stuck (member_of a.0 m) (λ b. got [] (b, a.1)))) is ∙ ap (λ o. with_before {A = Thing × State} [] (or_stuck o (λ b. got [] (b, z)))) w.1) w.2
  further_walk (LStep.index k ∷ ls) e x y is w =
      further_walk ls (Expr.index e k) w.1 y
      (ap (λ g. then_get g (λ a. then_fetch {A = Thing × State} (denote p calls k a.1) (λ v s. or_stuck (element_of a.0 v) (λ b. got [] (b, s))))) is
      ∙ ap (with_before []) (on_operand p calls z k w.0 (λ v s. or_stuck (element_of x v) (λ b. got [] (b, s))) w.2 ∙ ap (λ o. or_stuck o (λ b. got [] (b, z))) w.3)) w.4

  pub walks_on : (ls ms : List LStep) (x y a : Thing) → Walks p calls z ls x y → Walks p calls z ms y a → Walks p calls z (ls ++ ms) x a
  walks_on [] ms x y a u v = subst (λ q. Walks p calls z ms q a) (sym u) v
  walks_on (LStep.member m ∷ ls) ms x y a u v = (u.0, u.1, walks_on ls ms u.0 y a u.2 v)
  walks_on (LStep.index e ∷ ls) ms x y a u v = (u.0, u.1, u.2, u.3, walks_on ls ms u.1 y a u.4 v)

  module _ (s : Setting) (overrides : List (ℕ × Given)) (f : Function) (key : Key → Text) (globals : ℕ → Option Expr) (right : AreConstants s) where
    abbrev W : scope.Setting
    W = writing s overrides f key globals

    abbrev Y : StructNames
    Y = struct_names key

    abbrev Gs : List Inst
    Gs = s.of.globals

    -- the type to which written steps lead
    abbrev pub way_type : ℕ → List Step → ℕ
    way_type ty [] = ty
    way_type ty (q ∷ qs) = way_type (paths.step_type W ty q) qs

    pub steps_more : (ty : ℕ) (qs rs : List Step) → steps_text W ty (qs ++ rs) ≡ steps_text W ty qs ++ steps_text W (way_type ty qs) rs
    steps_more ty [] rs = refl
    steps_more ty (q ∷ qs) rs = ap (λ l. step_text W ty q ∷ l) (steps_more (paths.step_type W ty q) qs rs)

    pub way_more : (ty : ℕ) (qs rs : List Step) → way_type ty (qs ++ rs) ≡ way_type (way_type ty qs) rs
    way_more ty [] rs = refl
    way_more ty (q ∷ qs) rs = way_more (paths.step_type W ty q) qs rs

    module _ (c : Conf) (x : Text) (from : List ℕ) (r : Root) where
      abbrev P : List ℕ → Tree → Thing → Type 0
      P = IsPart s Y c x from r

      -- each member of the struct stands for that part: so it is with a part of a variable, and with a block
      abbrev pub HasMembers : List ℕ → Tree → Thing → Type 0
      HasMembers path t a = (n : ℕ) × (ts : Trees) × (t ≡ plain.struct n ts) × (is_block s.of.heads n ≡ true) × ((k : ℕ) (u : Tree) → nth_of ts k ≡ Some u → (b : Thing) × (member_of a (Y.member_name n k) ≡ Some b) × P (path ++ k ∷ []) u b)

      abbrev pub IsFound : List ℕ → Tree → Thing → Type 0
      IsFound path t a = P path t a ⊎ HasMembers path t a

      abbrev pub IsPlace : List ℕ → Tree → Thing → Type 0
      IsPlace path t a = HasMembersApart Y t × IsFound path t a

      members_of : (path : List ℕ) (n : ℕ) (ts : Trees) (a : Thing) → IsPlace path (plain.struct n ts) a → (k : ℕ) (u : Tree) → nth_of ts k ≡ Some u → (b : Thing) × (member_of a (Y.member_name n k) ≡ Some b) × P (path ++ k ∷ []) u b
      members_of path n ts a (apart, inl is) k u at =
          named_is s Y c x from r path (plain.struct n ts) u k (Y.member_name n k) a is at tt (λ q stands. subst (λ x. named_part (Some x) (Y.member_name n k) ≡ Some (k, part_shape x k)) (sym stands.1) (field_named s Y n ts apart.0 ts stands.0 0 k k u stands.2 (let none : k ≡ 0 + k = omega arith in none) at at))
      members_of path n ts a (apart, inr is) k u at =
          let number : n ≡ is.0 = same_id n is.0 ts is.1 is.2 in
          let same : ts ≡ is.1 = same_trees n is.0 ts is.1 is.2 in
          let b = is.4 k u (ap (λ q. nth_of q k) (sym same) ∙ at) in
          (b.0, ap (λ q. member_of a (Y.member_name q k)) number ∙ b.1, b.2)
        where
          same_id : (n m : ℕ) (ts us : Trees) → plain.struct n ts ≡ plain.struct m us → n ≡ m
          same_id n m ts us e = cc

          same_trees : (n m : ℕ) (ts us : Trees) → plain.struct n ts ≡ plain.struct m us → ts ≡ us
          same_trees n m ts us e = cc

      only_part : (path : List ℕ) (t : Tree) (a : Thing) → is_struct_shape s t ≡ false → IsPlace path t a → P path t a
      only_part path t a off (apart, inl is) = is
      only_part path t a off (apart, inr is) = clash (sym (ap (is_struct_shape s) is.2) ∙ off)

      -- what is no block is a part
      abbrev pub IsNoBlock : Tree → Type 0
      IsNoBlock (plain.struct n ts) = is_block s.of.heads n ≡ false
      IsNoBlock _ = Unit {0}

      pub part_of : (path : List ℕ) (t : Tree) (a : Thing) → IsNoBlock t → IsPlace path t a → P path t a
      part_of path t a off (apart, inl is) = is
      part_of path t a off (apart, inr is) = let never : true ≡ false = sym is.3 ∙ subst IsNoBlock is.2 off in cc

      -- where one step leads
      pub record Steps (path : List ℕ) (ty i : ℕ) (u : Tree) (q : Step) (a : Thing) : Type 0 where
        pub to : Thing
        pub walks : Walks p calls z (step_text W ty q ∷ []) a to
        pub part : P (path ++ i ∷ []) u to
        pub type : paths.step_type W ty q ≡ part_type s ty i

      -- the types to which the module, the rules and the text go
      type_of_step : (ty i : ℕ) (t : Tree) (q : Step) → type_tree Gs ty ≡ Some t → ((args : List ℕ) → slice_index args (part q) ≡ part_by (op_of t) args i) → paths.step_type W ty q ≡ part_type s ty i
      type_of_step ty i t q shape same =
          let d = declared_as s ty t shape in
          ap (λ (o : Option Inst). option_map_or (λ (g : Inst). slice_index g.args (part q)) o 0) d.1 ∙ same d.0.args
          ∙ ap (λ o. part_by o d.0.args i) (sym d.2) ∙ sym (ap (λ (o : Option Inst). option_map_or (λ (g : Inst). part_by g.op g.args i) o 0) d.1)

      -- a member
      struct_step : (path : List ℕ) (ty n i : ℕ) (ts : Trees) (u : Tree) (a : Thing) → type_tree Gs ty ≡ Some (plain.struct n ts) → n ≡ ty → IsPlace path (plain.struct n ts) a → nth_of ts i ≡ Some u → Steps path ty i u (steps_of.Member i) a
      struct_step path ty n i ts u a shape same is at =
          let b = members_of path n ts a is i u at in
          record {
            to = b.0;
            walks = (b.0, ap (λ q. member_of a (Y.member_name q i)) (sym same) ∙ b.1, refl);
            part = b.2;
            type = type_of_step ty i (plain.struct n ts) (steps_of.Member i) shape (λ args. refl);
          }

      -- an index by an expression
      index_walks : (path : List ℕ) (i : ℕ) (t u : Tree) (e : Expr) (a : Thing) → IsIndexed s Y c x from r t → P path t a → element_shape t i ≡ Some u → IsInside s t i → nat_lt i (2 ^ 31) ≡ true → SaysIndex p calls z e i
          → (b : Thing) × Walks p calls z (LStep.index e ∷ []) a b × P (path ++ i ∷ []) u b
      index_walks path i t u e a on is there inside low says =
          let b = indexed_is s Y c x from r path t u i a on is there inside low says.0 says.2 in
          (b.0, (says.0, b.0, says.1, b.1, refl), b.2)

      -- a component by its letter
      letter_walks : (path : List ℕ) (i n : ℕ) (e : Elem) (u : Tree) (a : Thing) → i < n → n ≤ 4 → P path (plain.vector e n) a → element_shape (plain.vector e n) i ≡ Some u → (b : Thing) × Walks p calls z (LStep.member (axis_name i) ∷ []) a b × P (path ++ i ∷ []) u b
      letter_walks path i n e u a less four is there =
          let b = named_is s Y c x from r path (plain.vector e n) u i (axis_name i) a is there less (λ q stands. subst (λ x. named_part (Some x) (axis_name i) ≡ Some (i, part_shape x i)) (sym stands) (axis_part e n i less four)) in
          (b.0, (b.0, b.1, refl), b.2)

      -- an index, of what is no struct
      abbrev Index : List ℕ → ℕ → Tree → LStep → Thing → Type 0
      Index path i u l a = (b : Thing) × Walks p calls z (l ∷ []) a b × P (path ++ i ∷ []) u b

      no_vector : (ty i : ℕ) (t : Tree) → type_tree Gs ty ≡ Some t → is (op_of t) code.TypeVector ≡ false → nat_lt i (vector_size W ty) ≡ true → ⊥
      no_vector ty i t shape off less =
          let d = declared_as s ty t shape in
          let size : vector_size W ty ≡ 0 = ap (λ (o : Option Inst). option_map_or components o 0) d.1 ∙ ap (λ o. if is o code.TypeVector then slice_index d.0.args 1 else 0) d.2 ∙ ap (λ b. if b then slice_index d.0.args 1 else 0) off in
          let low : i < 0 = subst (λ k. i < k) size (less_of i (vector_size W ty) less) in
          omega (arith, low)

      by_literal : (path : List ℕ) (ty n i : ℕ) (t u : Tree) (a : Thing) → type_tree Gs ty ≡ Some t → IsIndexed s Y c x from r t → P path t a → element_shape t i ≡ Some u → IsInside s t i → nat_lt i (2 ^ 31) ≡ true → SaysIndex p calls z (index_expr W n) i
          → ((k : ℕ) → word_at W n ≡ Some k → k ≡ i) → Index path i u (index_by W (vector_size W ty) n (word_at W n)) a
      by_literal path ty n i t u a shape on place there inside low says literal = by_word (word_at W n) refl
        where
          otherwise : Index path i u (LStep.index (index_expr W n)) a
          otherwise = index_walks path i t u (index_expr W n) a on place there inside low says

          by_size : (t : Tree) → type_tree Gs ty ≡ Some t → P path t a → element_shape t i ≡ Some u → nat_lt i (vector_size W ty) ≡ true → IsIndexed s Y c x from r t → Index path i u (LStep.member (axis_name i)) a
          by_size (plain.vector e m) shape place there less on =
              let v = vector_size_is s ty e m shape in
              let size : vector_size W ty ≡ m = ap (λ (o : Option Inst). option_map_or components o 0) v.1 ∙ ap (λ o. if is o code.TypeVector then slice_index v.0.args 1 else 0) v.2 ∙ ap (λ b. if b then slice_index v.0.args 1 else 0) yes_vector ∙ v.3 in
              letter_walks path i m e u a (subst (λ k. i < k) size (less_of i (vector_size W ty) less)) v.4 place there
          by_size (plain.array t l) shape place there less on = absurd (no_vector ty i (plain.array t l) shape no_array less)
          by_size (plain.runtime t) shape place there less on = absurd (no_vector ty i (plain.runtime t) shape no_runtime less)
          by_size (plain.struct m ts) shape place there less on = absurd on
          by_size plain.boolean shape place there less on = absurd on
          by_size plain.int shape place there less on = absurd on
          by_size plain.uint shape place there less on = absurd on

          by_less : (k : ℕ) → k ≡ i → (b : Bool) → nat_lt i (vector_size W ty) ≡ b → Index path i u (if nat_lt k (vector_size W ty) then LStep.member (axis_name k) else LStep.index (index_expr W n)) a
          by_less k same b less =
              subst (λ q. Index path i u (if nat_lt q (vector_size W ty) then LStep.member (axis_name q) else LStep.index (index_expr W n)) a) (sym same)
              (subst (λ q. Index path i u (if q then LStep.member (axis_name i) else LStep.index (index_expr W n)) a) (sym less) (by_test b less))
            where
              by_test : (b : Bool) → nat_lt i (vector_size W ty) ≡ b → Index path i u (if b then LStep.member (axis_name i) else LStep.index (index_expr W n)) a
              by_test true less = by_size t shape place there less on
              by_test false less = otherwise

          by_word : (o : Option ℕ) → word_at W n ≡ o → Index path i u (index_by W (vector_size W ty) n o) a
          by_word None is = otherwise
          by_word (Some k) is = by_less k (literal k is) (nat_lt i (vector_size W ty)) refl

      -- one index, whatever it steps into
      abbrev Stepped : List ℕ → ℕ → ℕ → Tree → Spot → ℕ → ℕ → Thing → Type 0
      Stepped path ty i u spot k n a = Steps path ty i u (step Gs spot k n (Some ty)) a

      written_struct : (spot : Spot) (k n ty i : ℕ) → is_struct Gs ty ≡ true → constant_word Gs n ≡ Some i → step Gs spot k n (Some ty) ≡ steps_of.Member i
      written_struct spot k n ty i on told =
          ap (λ b. option_map_or steps_of.Member (if b then constant_word Gs n else None) (index_step Gs spot k n)) on
          ∙ ap (λ o. option_map_or steps_of.Member o (index_step Gs spot k n)) told

      written_index : (spot : Spot) (k n ty : ℕ) → is_struct Gs ty ≡ false → step Gs spot k n (Some ty) ≡ index_step Gs spot k n
      written_index spot k n ty off = ap (λ b. option_map_or steps_of.Member (if b then constant_word Gs n else None) (index_step Gs spot k n)) off

      indexed_type : (t : Tree) (args : List ℕ) (i : ℕ) → IsIndexed s Y c x from r t → slice_index args 0 ≡ part_by (op_of t) args i
      indexed_type (plain.vector e m) args i on = refl
      indexed_type (plain.array t l) args i on = refl
      indexed_type (plain.runtime t) args i on = refl
      indexed_type (plain.struct m ts) args i on = absurd on
      indexed_type plain.boolean args i on = absurd on
      indexed_type plain.int args i on = absurd on
      indexed_type plain.uint args i on = absurd on

      plain_step : (path : List ℕ) (ty n i k : ℕ) (spot : Spot) (t u : Tree) (a : Thing) → type_tree Gs ty ≡ Some t → IsIndexed s Y c x from r t → is_struct_shape s t ≡ false → P path t a → element_shape t i ≡ Some u → IsInside s t i → nat_lt i (2 ^ 31) ≡ true → IsIndex p calls z W spot k n i → Stepped path ty i u spot k n a
      plain_step path ty n i k spot t u a shape on off is there inside low index =
          subst (λ q. Steps path ty i u q a) (sym (written_index spot k n ty (struct_by s ty t shape ∙ off))) (by_place (is_constant_index Gs n || (spot.stands == spot.printed)) refl)
        where
          by_place : (b : Bool) → (is_constant_index Gs n || (spot.stands == spot.printed)) ≡ b → Steps path ty i u (if b then steps_of.Index (id n) else steps_of.Captured (id spot.chain) k) a
          by_place true now =
              let b = by_literal path ty n i t u a shape on is there inside low (index.now now) index.literal in
              record { to = b.0; walks = b.1; part = b.2; type = type_of_step ty i t (steps_of.Index (id n)) shape (λ args. indexed_type t args i on) }
          by_place false now =
              let b = index_walks path i t u (name (key (Captured (id spot.chain) k))) a on is there inside low (index.before now) in
              record { to = b.0; walks = b.1; part = b.2; type = type_of_step ty i t (steps_of.Captured (id spot.chain) k) shape (λ args. indexed_type t args i on) }

      pub one_step : (path : List ℕ) (ty n i k : ℕ) (spot : Spot) (t u : Tree) (a : Thing) → type_tree Gs ty ≡ Some t → IsPlace path t a → element_shape t i ≡ Some u → IsInside s t i → nat_lt i (2 ^ 31) ≡ true → IsIndex p calls z W spot k n i
          → (is_struct Gs ty ≡ true → is_some (constant_word Gs n) ≡ true) → Stepped path ty i u spot k n a
      one_step path ty n i k spot (plain.struct m ts) u a shape is there inside low index by_constant =
          let on : is_struct Gs ty ≡ true = struct_by s ty (plain.struct m ts) shape in
          let w = some_of (constant_word Gs n) (by_constant on) in
          let told : constant_word Gs n ≡ Some i = w.1 ∙ ap (λ q. Some q) (index.constant w.0 w.1) in
          subst (λ q. Steps path ty i u q a) (sym (written_struct spot k n ty i on told)) (struct_step path ty m i ts u a shape (struct_number s ty m ts shape) is there)
      one_step path ty n i k spot (plain.vector e m) u a shape is there inside low index by_constant =
          plain_step path ty n i k spot (plain.vector e m) u a shape tt refl (only_part path (plain.vector e m) a refl is) there inside low index
      one_step path ty n i k spot (plain.array t l) u a shape is there inside low index by_constant =
          plain_step path ty n i k spot (plain.array t l) u a shape tt refl (only_part path (plain.array t l) a refl is) there inside low index
      one_step path ty n i k spot (plain.runtime t) u a shape is there inside low index by_constant =
          plain_step path ty n i k spot (plain.runtime t) u a shape tt refl (only_part path (plain.runtime t) a refl is) there inside low index
      one_step path ty n i k spot plain.boolean u a shape is there inside low index by_constant = cc
      one_step path ty n i k spot plain.int u a shape is there inside low index by_constant = cc
      one_step path ty n i k spot plain.uint u a shape is there inside low index by_constant = cc

      -- The steps of a chain lead from what its base stands for to what it stands for itself.
      pub record Walked (path : List ℕ) (ty : ℕ) (qs : List Step) (is : List ℕ) (a : Thing) : Type 0 where
        pub to : Thing
        pub shape : Tree
        pub walks : Walks p calls z (steps_text W ty qs) a to
        pub place : IsPlace (path ++ is) shape to
        pub type : way_type ty qs ≡ type_along s ty is
        pub typed : type_tree Gs (type_along s ty is) ≡ Some shape

      pub chain_walks : (ns is : List ℕ) (path : List ℕ) (ty k : ℕ) (spot : Spot) (t : Tree) (a : Thing) → type_tree Gs ty ≡ Some t → IsPlace path t a → are_allowed s ty is ≡ true → AreIndexes p calls z W spot k ns is → ByConstants s ty ns is
          → Walked path ty (steps_from Gs spot k (Some ty) ns) is a
      chain_walks [] [] path ty k spot t a shape is allowed are by = record { to = a; shape = t; walks = refl; place = subst (λ l. IsPlace l t a) (sym (none_behind path)) is; type = refl; typed = shape }
      chain_walks [] (i ∷ is) path ty k spot t a shape place allowed are by = absurd are
      chain_walks (n ∷ ns) [] path ty k spot t a shape place allowed are by = absurd are
      chain_walks (n ∷ ns) (i ∷ is) path ty k spot t a shape place allowed are by =
          let both = and_parts (is_allowed s ty i) (are_allowed s (part_type s ty i) is) allowed in
          let q = allowed_is s ty i t right shape both.0 in
          let one = one_step path ty n i k spot t q.part a shape place q.there q.inside q.low are.0 by.0 in
          let typed : type_tree Gs (part_type s ty i) ≡ Some q.part = part_leads s ty i t q.part shape q.there in
          let told : is_struct_shape s t ≡ true → constant_word Gs n ≡ Some i
          = λ on. let w = some_of (constant_word Gs n) (by.0 (struct_by s ty t shape ∙ on)) in w.1 ∙ ap (λ (j : ℕ). Some j) (are.0.constant w.0 w.1) in
          let next : step_type Gs n ty ≡ Some (part_type s ty i) = step_type_is s ty i n t shape both.0 told in
          let more = chain_walks ns is (path ++ i ∷ []) (part_type s ty i) (k + 1) spot q.part one.to typed (part_apart Y t q.part i place.0 q.there, inl one.part) both.1 are.1 by.1 in
          let rest : steps_from Gs spot (k + 1) (option_and_then (step_type Gs n) (Some ty)) ns ≡ steps_from Gs spot (k + 1) (Some (part_type s ty i)) ns = ap (λ o. steps_from Gs spot (k + 1) o ns) next in
          let here : Step = step Gs spot k n (Some ty) in
          record {
            to = more.to;
            shape = more.shape;
            walks = walks_on (step_text W ty here ∷ []) (steps_text W (paths.step_type W ty here) (steps_from Gs spot (k + 1) (step_type Gs n ty) ns)) a one.to more.to one.walks
                (subst (λ l. Walks p calls z (steps_text W (paths.step_type W ty here) l) one.to more.to) (sym rest) (subst (λ j. Walks p calls z (steps_text W j (steps_from Gs spot (k + 1) (Some (part_type s ty i)) ns)) one.to more.to) (sym one.type) more.walks));
            place = subst (λ l. IsPlace l more.shape more.to) (joined path is i) more.place;
            type = ap (λ l. way_type (paths.step_type W ty here) l) rest ∙ ap (λ j. way_type j (steps_from Gs spot (k + 1) (Some (part_type s ty i)) ns)) one.type ∙ more.type;
            typed = more.typed;
          }
