-- So a pointer is written as what it begins with, or further than its base: by what is known of chains, and of the instructions of the block.
use Rattle.std.proofs.Common.{◌≡◌, ◌⊎◌, ◌==◌, ◌||◌, ◌+◌, ◌++◌, ℕ, suc, Bool, true, false, List, [], ◌∷◌, drop, length, Option, Some, None, inl, inr, refl, sym, ap, ◌∙◌, subst, arith}
use Rattle.std.specs.Prelude.{◌&&◌, option_map, option_and_then, slice_index, if◌then◌else◌}
use Rattle.std.specs.Option.{option_map_or}
use Rattle.std.proofs.lemmas.Bool.{or_parts}
use Rattle.spv_ops.specs.Groups.{is_constant as is_constant_op}
use Rattle.spv_module.specs.Held.{global as global_inst}
use Rattle.spv_module.specs.Lists.{id}
use Rattle.spv_module.specs.declared.inst.Inst.{Inst}
use Rattle.spv_module.specs.declared.inst.Function.{Function}
use Rattle.spv_types.specs.Tree.{Tree, word}
use Rattle.spv_types.specs.Types.{elem_of, type_tree}
use Rattle.spv_index.specs.Locals.{insts_of}
use Rattle.spv_index.specs.Pointers.{pointee_of}
use Rattle.profile_rules.specs.declared.given.Given.{Given}
use Rattle.traces.specs.Runs.{Supplied}
use Rattle.traces.specs.Outcomes.{Result}
use Rattle.module_semantics.specs.Setting.{Setting, global_variable}
use Rattle.module_semantics.specs.State.{Root, global, own, lent, Held, value, pointer, Conf}
use Rattle.module_semantics.specs.Operands.{of_module, as_pointer, value_at, word_at, pointer_at, words_at, Target}
use Rattle.module_semantics.specs.Steps.{base}
use Rattle.name_alloc.specs.declared.claims.Key.{Key}
use Rattle.name_alloc.specs.declared.claims.Key.TheVariants.{Captured}
use Rattle.access_paths.specs.Ways.{Spot, is_constant_index, spot_of}
use Rattle.glsl_ast.specs.Tree.{Text, Expr, name}
use Rattle.glsl_semantics.specs.Shapes.{Shape, int, uint, Typed, typed}
use Rattle.glsl_semantics.specs.States.{State, index_word}
use Rattle.glsl_semantics.specs.Expressions.{Program, Argument, evaluate}
use Rattle.text_rules.specs.Constants.{is_constant}
use Rattle.expr_forward.specs.Scope as scope
use Rattle.expr_forward.specs.Paths as paths
use Rattle.expr_forward.specs.Paths.{literal_word, is_plain, is_number, index_expr}
use Rattle.text_rules.specs.Constants.{reading, plain_value}
use Rattle.text_rules.specs.Declarations.{word_of}
use Rattle.op_semantics.specs.Component.{before}
use Rattle.list_law.proofs.Lists.{same_first, same_rest}
use Rattle.list_law.proofs.Options.{none_some}
use Rattle.fits_law.proofs.Operations.{before_some}
use Rattle.fits_law.proofs.Parts.{word_value}
use Rattle.type_law.specs.Shaped.{AreConstants}
use Rattle.agree_law.specs.Agree.{Naming, variable_with}
use Rattle.agree_law.specs.Blocks.{IsOf, led, outcome, has_outcome, Stands}
use Rattle.agree_law.proofs.Owned.{own_found}
use Rattle.agree_law.proofs.Values.{name_says, named_says}
use Rattle.profile_rules.specs.MemoryRules.{is_own_memory}
use Rattle.call_law.specs.Known.{is_parameter, IsOfBelow, LendsWhole}
use Rattle.call_law.proofs.Lending.{of_pointer}
use Rattle.global_law.specs.Walks.{writing, SaysIndex, IsIndex, AreIndexes}
use Rattle.global_law.specs.Starts.{IsParameter, IsPrivate, IsBuiltIn, IsShared, IsBlock, IsStart}
use Rattle.global_law.specs.Pointers.{BeginsAs, GoesOn}
use Rattle.global_law.specs.Chains.{ChainsRise, ConstantsAre, IsLed, AreLed, ChainsAreRight}
use Rattle.global_law.specs.Writings.{IsNumber, HasVariable, IsKeptIndex, IsWrittenIndex, AreWrittenIndexes, IsWrittenChain, IsOwnStart, IsParameterStart, IsGlobalStart, IsWrittenStart}
use Rattle.global_law.proofs.Path.Based.{chain_op, rank, base_lower}
use Rattle.global_law.proofs.Path.Ways.{start_way, chain_way}
use Rattle.global_law.proofs.Path.Reached.{constant_known, constant_same, IsRightChain, chain_reaches}
use Rattle.global_law.proofs.Path.Led.{variable_was}

-- what a word is the value of
number_word : (t : Shape) (i : ℕ) → IsNumber t → index_word (typed t (word i)) ≡ Some i
number_word int i n = refl
number_word uint i n = refl
number_word _ i n = absurd n

-- a list behind another is one alone
same_behind : (xs ys zs : List ℕ) → xs ++ ys ≡ xs ++ zs → ys ≡ zs
same_behind [] ys zs e = e
same_behind (x ∷ xs) ys zs e = same_behind xs ys zs (let same : xs ++ ys ≡ xs ++ zs = cc in same)

module _ (p : Program) (calls : Text → List Argument → State → Result (Option Typed × State)) (m : Naming) (s : Setting) (Holds : Conf → Type 0) (f : Function) (b : ℕ) (done : List Inst) (overrides : List (ℕ × Given)) (key : Key → Text) (globals : ℕ → Option Expr) (right : AreConstants s) (c : Supplied Conf) (z : State) (stands : Stands m s Holds f b done c z) (known : AreLed s c.at.below c.at.top) where
  abbrev W : scope.Setting
  W = writing s overrides f key globals

  abbrev Gs : List Inst
  Gs = s.of.globals

  -- a literal is of a constant
  literal_constant : (n l : ℕ) → paths.word_at W n ≡ Some l → is_constant_index Gs n ≡ true
  unfolding literal_word
  literal_constant n l e = by_global (global_inst Gs n) e
    where
      by_test : (g : Inst) (b d : Bool) → is_constant g ≡ b → (if b && d then Some (word_of (plain_value W.source g)) else None) ≡ Some l → is_constant_op g.op ≡ true
      by_test g true d on e = on
      by_test g false d on e = cc

      by_inst : (g : Inst) → literal_word W g ≡ Some l → is_constant_op g.op ≡ true
      by_inst g e = by_test g (is_constant g) (is_plain (reading W.source g) && is_number (option_and_then elem_of (type_tree Gs g.ty))) refl e

      by_global : (o : Option Inst) → option_and_then (literal_word W) o ≡ Some l → option_map_or (λ (g : Inst). is_constant_op g.op) o false ≡ true
      by_global None e = cc
      by_global (Some g) e = by_inst g e

  -- an id of the function that leads somewhere
  own_pointer : (n : ℕ) (r : Root) (at : List ℕ) → of_module s n ≡ None → pointer_at s c.at.top n ≡ Some (r, at) → c.at.top.ids n ≡ Some (pointer r at)
  own_pointer n r at local is = by_id (c.at.top.ids n) refl is
    where
      same_target : (q r : Root) (a b : List ℕ) → as_pointer (Some (pointer q a)) ≡ Some (r, b) → Some (pointer q a) ≡ Some (pointer r b)
      same_target q r a b e =
          let left : Target = (q, a) in
          let second : Target = (r, b) in
          let same : left ≡ second = cc in
          ap (λ (t : Target). Some (pointer t.0 t.1)) same

      by_id : (o : Option Held) → c.at.top.ids n ≡ o → as_pointer (elim o as (λ o. Option Held) [ Some h ↦ Some h | None ↦ of_module s n ]) ≡ Some (r, at) → c.at.top.ids n ≡ Some (pointer r at)
      by_id None there e = let never : None ≡ Some (r, at) = sym (ap as_pointer local) ∙ e in none_some never
      by_id (Some (value v)) there e = cc
      by_id (Some (pointer q a)) there e = there ∙ same_target q r a at e

  module _ (q : Inst) (is : IsWrittenChain p calls z m s overrides f key globals b done q) (r : Root) (at : List ℕ) (there : c.at.top.ids q.result ≡ Some (pointer r at)) (l : IsLed s c.at.top q r at) where
    abbrev spot : Spot
    spot = spot_of b (is.stands, q)

    -- in its own block, the chain has the indexes that its operands have now
    words_now : (is.stands == b) ≡ true → words_at s c.at.top (drop 1 q.args) ≡ Some l.indexes
    words_now here = by_words (words_at s c.at.top (drop 1 q.args)) refl
      where
        led_is : led s c.at.top q ≡ Some (pointer r at)
        led_is =
            ap (λ kind. outcome kind s c.at.top q) (sym is.kind) ∙ sym (stands.settled.still q (is.made here) (ap has_outcome is.kind))
            ∙ ap (λ o. elim o as (λ o. Option Held) [ Some h ↦ Some h | None ↦ of_module s q.result ]) there

        path_same : (is : List ℕ) → Some (pointer r (l.from ++ is)) ≡ Some (pointer r at) → is ≡ l.indexes
        path_same is e = let same : l.from ++ is ≡ at = cc in same_behind l.from is l.indexes (same ∙ l.whole)

        by_words : (o : Option (List ℕ)) → words_at s c.at.top (drop 1 q.args) ≡ o → words_at s c.at.top (drop 1 q.args) ≡ Some l.indexes
        by_words o has =
            let now : option_map (λ (is : List ℕ). pointer r (l.from ++ is)) o ≡ Some (pointer r at)
            = sym (ap (λ (g : Option Target). option_and_then (λ (p : Target). option_map (λ (is : List ℕ). pointer p.0 (p.1 ++ is)) (words_at s c.at.top (drop 1 q.args))) g) l.base_is ∙ ap (option_map (λ (is : List ℕ). pointer r (l.from ++ is))) has) ∙ led_is in
            by_some o has now
          where
            by_some : (o : Option (List ℕ)) → words_at s c.at.top (drop 1 q.args) ≡ o → option_map (λ (is : List ℕ). pointer r (l.from ++ is)) o ≡ Some (pointer r at) → words_at s c.at.top (drop 1 q.args) ≡ Some l.indexes
            by_some None has e = cc
            by_some (Some is) has e = has ∙ ap (λ a. Some a) (path_same is e)

    -- an index by its variable
    variable_says : (n i : ℕ) → HasVariable p calls z m s overrides f key globals b done n → word_at s c.at.top n ≡ Some i → SaysIndex p calls z (index_expr W n) i
    variable_says n i v has = (
      typed (m.shape n) (word i),
      named_says p calls m s Holds f b done c z stands (index_expr W) n (word i) (record { written = v.itself; own = v.own; there = v.there }) (word_value (value_at s c.at.top n) i has),
      number_word (m.shape n) i v.number,
    )

    -- and as it was kept
    kept_says : (k i : ℕ) → IsKeptIndex p calls z m s overrides f key globals b done q k → length l.indexes ≡ length (drop 1 q.args) → slice_index l.indexes k ≡ i → SaysIndex p calls z (name (key (Captured (id q.result) k))) i
    kept_says k i kept count here =
        let a = stands.agree.all.kept q.result k kept.kept in
        let o_is : a.0 ≡ Some (word i)
        = of_pointer (λ r path. a.0 ≡ Some (word (m.index_in q.result k path))) (c.at.top.ids q.result) r at there a.2 ∙ ap (λ j. Some (word j)) (ap (m.index_in q.result k) l.whole ∙ kept.counts l.from l.indexes count ∙ here) in (
          typed (m.index_shape q.result k) (word i),
          ap (λ x. evaluate p calls (name x) z) (sym kept.named) ∙ name_says p calls z (m.index_name q.result k) (m.index_shape q.result k) (word i) (own_found z.frames (m.index_name q.result k) _ a.1 ∙ ap (λ o. Some (variable_with (m.index_shape q.result k) o)) o_is),
          number_word (m.index_shape q.result k) i kept.number,
        )

    same_length : (ns is : List ℕ) → ConstantsAre s ns is → length is ≡ length ns
    same_length [] [] are = refl
    same_length [] (i ∷ is) are = absurd are
    same_length (n ∷ ns) [] are = absurd are
    same_length (n ∷ ns) (i ∷ is) are = ap suc (same_length ns is are.1)

    one_index : (k n i : ℕ) → IsWrittenIndex p calls z m s overrides f key globals b done q is.stands k n → (is_constant_index Gs n ≡ true → s.constants n ≡ Some (word i)) → ((is.stands == b) ≡ true → word_at s c.at.top n ≡ Some i) → slice_index l.indexes k ≡ i → IsIndex p calls z W spot k n i
    one_index k n i w constant now here = record {
      constant = λ j told. constant_same s n j i right told (constant (constant_known Gs n j told));
      literal = λ j told. w.literal j i told (constant (literal_constant n j told));
      now = λ on. by_constant (is_constant_index Gs n) refl on;
      before = λ off. let parts = or_parts (is_constant_index Gs n) (is.stands == b) off in kept_says k i (w.elsewhere parts.0 parts.1) (same_length (drop 1 q.args) l.indexes l.constants) here;
    }
      where
        by_constant : (t : Bool) → is_constant_index Gs n ≡ t → (t || (is.stands == b)) ≡ true → SaysIndex p calls z (index_expr W n) i
        by_constant true on e = w.constant i on (constant on)
        by_constant false off e = variable_says n i (w.here off e) (now e)

    all_indexes : (k : ℕ) (ns js : List ℕ) → AreWrittenIndexes p calls z m s overrides f key globals b done q is.stands k ns → ConstantsAre s ns js → ((is.stands == b) ≡ true → words_at s c.at.top ns ≡ Some js) → ((j : ℕ) → slice_index l.indexes (k + j) ≡ slice_index js j) → AreIndexes p calls z W spot k ns js
    all_indexes k [] [] w are now here = tt
    all_indexes k [] (j ∷ js) w are now here = absurd are
    all_indexes k (n ∷ ns) [] w are now here = absurd are
    all_indexes k (n ∷ ns) (j ∷ js) w are now here = (
      one_index k n j w.0 are.0 (λ on. first (word_at s c.at.top n) (words_at s c.at.top ns) (now on)) (ap (slice_index l.indexes) (let same : k ≡ k + 0 = omega arith in same) ∙ here 0),
      all_indexes (k + 1) ns js w.1 are.1 (λ on. rest (word_at s c.at.top n) (words_at s c.at.top ns) (now on)) (λ i. ap (slice_index l.indexes) (let same : k + 1 + i ≡ k + suc i = omega arith in same) ∙ here (suc i)),
    )
      where
        first : (o : Option ℕ) (q : Option (List ℕ)) → before o q ≡ Some (j ∷ js) → o ≡ Some j
        first o q e = let w = before_some o q (j ∷ js) e in w.2 ∙ ap (λ a. Some a) (sym (same_first j w.0 js w.1 w.4))

        rest : (o : Option ℕ) (q : Option (List ℕ)) → before o q ≡ Some (j ∷ js) → q ≡ Some js
        rest o q e = let w = before_some o q (j ∷ js) e in w.3 ∙ ap (λ a. Some a) (sym (same_rest j w.0 js w.1 w.4))

  -- where the chains of the function stand in order
  module _ (whole : LendsWhole s) (rules : ChainsAreRight s) where
    abbrev Rise : Type 0
    Rise = ChainsRise (insts_of f)

    rise : Rise
    rise = subst (λ g. ChainsRise (insts_of g)) stands.function (rules.rise c.at.top.function known.lending.code.of_module)

    -- a chain
    pub goes_on : (IsUsable : ℕ → Type 0) (q : Inst) → IsWrittenChain p calls z m s overrides f key globals b done q → IsRightChain s f right q → IsUsable (base q) → GoesOn p calls z m s overrides f key globals c.at b (rank f) IsUsable q.result
    goes_on IsUsable q is fine usable = record {
      by = q;
      stands = is.stands;
      way = chain_way Gs f b is.stands is.block q rise is.in_block is.inst (chain_op q.op is.kind);
      lower = base_lower f q rise is.of_function (chain_op q.op is.kind);
      usable = usable;
      leads = λ r at there.
          let ids = own_pointer q.result r at is.own there in
          let of_top : IsOf q (insts_of c.at.top.function) = subst (λ g. IsOf q (insts_of g)) (sym stands.function) is.of_function in
          let l = of_pointer (IsLed s c.at.top q) (c.at.top.ids q.result) r at ids (known.chains q of_top is.kind) in
          let points : pointee_of Gs f (base q) ≡ Some l.type = ap (λ g. pointee_of Gs g (base q)) (sym stands.function) ∙ l.points_to in
          let shape = is.base_shape l.type points in
          let reaches = chain_reaches s f right q l.type shape.0 l.indexes fine points shape.1 l.allowed l.constants in
          record {
            from = l.from;
            indexes = l.indexes;
            base_is = l.base_is;
            whole = l.whole;
            type = l.type;
            points_to = points;
            allowed = l.allowed;
            says = all_indexes q is r at ids l 0 (drop 1 q.args) l.indexes is.indexes l.constants (words_now q is r at ids l) (λ j. ap (slice_index l.indexes) (let same : 0 + j ≡ j = omega arith in same));
            by_constants = reaches.by_constants;
            reaches = reaches.reaches;
          };
    }

    -- a variable of the function, a parameter, and what is the module's
    abbrev Start : ℕ → Tree → Root → List ℕ → Type 0
    Start n t r at = IsStart p m s W.source key globals c.at n t r at

    own_begins : (n : ℕ) (t : Tree) → IsOwnStart p calls z m s overrides f key globals b done n t → (r : Root) (at : List ℕ) → pointer_at s c.at.top n ≡ Some (r, at) → Start n t r at
    own_begins n t is r at there =
        let was = variable_was s whole rules c.at.below c.at.top n r at known (ap (λ g. is_own_memory g n) stands.function ∙ is.2) (ap (λ g. is_parameter g n) stands.function ∙ is.3) there in
        inl (record { variable = is.0; is = is.1; root = was.0; whole = was.1 })

    parameter_begins : (n : ℕ) (t : Tree) → IsParameterStart p calls z m s overrides f key globals b done n t → (r : Root) (at : List ℕ) → pointer_at s c.at.top n ≡ Some (r, at) → Start n t r at
    parameter_begins n t is r at there =
        let ids = own_pointer n r at is.3 there in
        let below = of_pointer (λ r path. IsOfBelow c.at.below r × (path ≡ [])) (c.at.top.ids n) r at ids (known.lending.parameters n (ap (λ g. is_parameter g n) stands.function ∙ is.2)) in
        inr (inl (by_root r ids below.0 below.1))
      where
        by_root : (r : Root) → c.at.top.ids n ≡ Some (pointer r at) → IsOfBelow c.at.below r → at ≡ [] → IsParameter p m s W.source key globals c.at n t r at
        by_root (lent depth k) ids is_below none = record { variable = is.0; is = is.1; leads = ids; depth = depth; of = k; root = refl; whole = none }
        by_root (global k) ids is_below none = absurd is_below
        by_root (own k) ids is_below none = absurd is_below

    global_begins : (n : ℕ) (t : Tree) → IsGlobalStart p calls z m s overrides f key globals b done n t → (r : Root) (at : List ℕ) → pointer_at s c.at.top n ≡ Some (r, at) → Start n t r at
    global_begins n t is r at there = subst (λ a. Start n t a at) (by_variable is.1).0 (subst (Start n t (global n)) (by_variable is.1).1 (by_kind is.1))
      where
        from_module : pointer_at s c.at.top n ≡ as_pointer (of_module s n)
        from_module = ap (λ o. as_pointer (elim o as (λ o. Option Held) [ Some h ↦ Some h | None ↦ of_module s n ])) (known.own n is.0)

        leads_itself : (v : Inst) → global_variable s n ≡ Some v → (global n ≡ r) × ([] ≡ at)
        leads_itself v has =
            let now : as_pointer (Some (pointer (global n) [])) ≡ Some (r, at)
            = sym (ap (λ o. as_pointer (elim o as (λ o. Option Held) [ Some v ↦ Some (pointer (global n) []) | None ↦ option_map value (s.constants n) ])) has) ∙ sym from_module ∙ there in
            let left : Target = (global n, []) in
            let second : Target = (r, at) in
            let same : left ≡ second = cc in
            (ap (λ (t : Target). t.0) same, ap (λ (t : Target). t.1) same)

        by_variable : IsPrivate p m s W.source key globals n t (global n) [] ⊎ (IsBuiltIn p m s W.source key globals n t (global n) [] ⊎ (IsShared p m s W.source key globals n t (global n) [] ⊎ IsBlock p m s W.source key globals n t (global n) [])) → (global n ≡ r) × ([] ≡ at)
        by_variable (inl is) = leads_itself is.inst is.there
        by_variable (inr (inl is)) = leads_itself is.inst is.there
        by_variable (inr (inr (inl is))) = leads_itself is.inst is.there
        by_variable (inr (inr (inr is))) = leads_itself is.inst is.there

        by_kind : IsPrivate p m s W.source key globals n t (global n) [] ⊎ (IsBuiltIn p m s W.source key globals n t (global n) [] ⊎ (IsShared p m s W.source key globals n t (global n) [] ⊎ IsBlock p m s W.source key globals n t (global n) [])) → Start n t (global n) []
        by_kind (inl is) = inr (inr (inl is))
        by_kind (inr (inl is)) = inr (inr (inr (inl is)))
        by_kind (inr (inr (inl is))) = inr (inr (inr (inr (inl is))))
        by_kind (inr (inr (inr is))) = inr (inr (inr (inr (inr is))))

    pub begins : (n : ℕ) → IsWrittenStart p calls z m s overrides f key globals b done n → BeginsAs p calls z m s overrides f key globals c.at b n
    begins n is = record { way = start_way Gs f b n is.none; type = is.type; shape = is.shape; points_to = is.points_to; typed_as = is.typed_as; members = is.members; is = by_kind is.kind }
      where
        by_kind : IsOwnStart p calls z m s overrides f key globals b done n is.shape ⊎ (IsParameterStart p calls z m s overrides f key globals b done n is.shape ⊎ IsGlobalStart p calls z m s overrides f key globals b done n is.shape) → (r : Root) (at : List ℕ) → pointer_at s c.at.top n ≡ Some (r, at) → Start n is.shape r at
        by_kind (inl a) = own_begins n is.shape a
        by_kind (inr (inl a)) = parameter_begins n is.shape a
        by_kind (inr (inr a)) = global_begins n is.shape a
