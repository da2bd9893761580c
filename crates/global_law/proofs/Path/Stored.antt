-- Stores: what is written sets the part to which the pointer leads, of whichever variable.
use Rattle.std.proofs.Common.{◌≡◌, ◌≢◌, ◌++◌, ℕ, true, false, List, [], ◌∷◌, Option, Some, None, inl, inr, refl, sym, ap, ◌∙◌, subst}
use Rattle.std.specs.Prelude.{◌⊎◌, option_and_then}
use Rattle.std.specs.Option.{option_map_or}
use Rattle.spv_ops.specs.Enumerants.{class_number, class_of_number}
use Rattle.spv_ops.specs.declared.StorageClass.TheVariants as storage
use Rattle.spv_module.specs.Lists.{id}
use Rattle.spv_module.specs.declared.inst.Inst.{Inst}
use Rattle.spv_module.specs.declared.inst.Function.{Function}
use Rattle.spv_types.specs.Tree.{Tree, ValueTree}
use Rattle.spv_decor.specs.Rows.{word}
use Rattle.op_semantics.specs.Composite.{inserted}
use Rattle.profile_rules.specs.declared.given.Given.{Given}
use Rattle.traces.specs.Runs.{go, Supplied, supplied}
use Rattle.traces.specs.Outcomes.{Result, got, or_stuck}
use Rattle.traces.specs.Simulation.{Follows}
use Rattle.traces.proofs.Moves.{Never, NeverGives}
use Rattle.module_semantics.specs.Setting.{Setting}
use Rattle.module_semantics.specs.State.{Root, global, lent, pointer, Frame, Conf, call_at}
use Rattle.module_semantics.specs.Operands.{pointer_at, value_at, Target, arg}
use Rattle.module_semantics.specs.Accesses.{seen, if_seen, seen_if, kept, global_value_by, global_value, keeping}
use Rattle.module_semantics.specs.Steps.{store, step_kind, advanced}
use Rattle.name_alloc.specs.declared.claims.Key.{Key}
use Rattle.name_alloc.specs.declared.claims.Key.TheVariants.{Id}
use Rattle.access_paths.specs.Ways.{path}
use Rattle.glsl_ast.specs.Tree.{Text, Expr, assign, LStep, lvalue}
use Rattle.glsl_semantics.specs.Shapes.{Shape, Typed, typed}
use Rattle.glsl_semantics.specs.States.{State, Thing, value, variable, instance, memory}
use Rattle.glsl_semantics.specs.Expressions.{Program, Argument, named, evaluate, steps}
use Rattle.glsl_semantics.specs.Statements.{stmt_run}
use Rattle.expr_forward.specs.Scope as scope
use Rattle.expr_forward.specs.Paths.{name_in, base_text, steps_text}
use Rattle.list_law.proofs.Options.{none_or_some}
use Rattle.type_law.specs.Shaped.{AreConstants}
use Rattle.agree_law.specs.Agree.{Naming, AreApart, IfPointer, IsFar}
use Rattle.agree_law.specs.Blocks.{has_outcome, Stands, At}
use Rattle.agree_law.specs.Evaluates.{IsKept}
use Rattle.agree_law.proofs.Machine.{machine}
use Rattle.agree_law.proofs.Instructions.{Writes}
use Rattle.agree_law.proofs.Stores.{Storing, set_lent, store_own_follows, store_private_follows, store_lent_follows}
use Rattle.global_law.specs.Parts.{shape_in, IsInput}
use Rattle.global_law.specs.Walks.{writing, struct_names}
use Rattle.global_law.specs.Starts.{IsVariable, IsOwn, IsParameter, IsPrivate, IsShared, IsBlock, IsStart}
use Rattle.global_law.proofs.Path.Starts.{variable_named, same_root}
use Rattle.global_law.proofs.Path.Pointers.{first_type, Leads, place_stands}
use Rattle.global_law.proofs.Path.Parts.{sized_lengths, only_shape}
use Rattle.global_law.proofs.Path.Accesses.{shape_itself, PointerLeads, PointsTo, Part, part_there, writes_seen}

-- a call below that has a variable is there
call_there : (o : Option Frame) (n : ℕ) (v : ValueTree) → option_and_then (λ (g : Frame). g.variables n) o ≡ Some v → (g : Frame) × (o ≡ Some g)
call_there None n v e = cc
call_there (Some g) n v e = (g, refl)

module _ (p : Program) (calls : Text → List Argument → State → Result (Option Typed × State)) (k : ℕ) (m : Naming) (names : AreApart m) (s : Setting) (Holds : Conf → Type 0) (f : Function) (b : ℕ) (keeps : IsKept (machine s) Holds) (done : List Inst) (i : Inst) (rest : List Inst)
    (overrides : List (ℕ × Given)) (key : Key → Text) (globals : ℕ → Option Expr) (right : AreConstants s) (c : Supplied Conf) (z : State) (stands : Stands m s Holds f b done c z) where
  abbrev W : scope.Setting
  W = writing s overrides f key globals

  abbrev Gs : List Inst
  Gs = s.of.globals

  abbrev n : ℕ
  n = arg i 0

  abbrev S : Tree → Shape
  S t = shape_in s (struct_names key) t

  -- the left side
  abbrev pub left_name : Text
  left_name = base_text W (path Gs f b n).base

  abbrev pub left_steps : List LStep
  left_steps = steps_text W (first_type p calls z m s overrides f key globals right c.at stands.agree.all b (path Gs f b n).base) (path Gs f b n).steps

  -- Of the module alone: parameters lead to variables of calls below, no two to one.
  pub record AreLent : Type 0 where
    pub far : (a : ℕ) → m.is_lent a ≡ true → (n : ℕ) → IfPointer (c.at.top.ids a) (λ r at. r ≢ global n)
    pub no_two : (a q : ℕ) (r : Root) (at : List ℕ) → m.is_lent a ≡ true → m.is_lent q ≡ true → a ≢ q → c.at.top.ids q ≡ Some (pointer r at) → IfPointer (c.at.top.ids a) (λ y at. IsFar y × (y ≢ r))

  -- the value that is stored says itself, of the type of what the pointer points to; and nothing built in is stored to
  pub record Stores (t : Tree) (e : Expr) : Type 0 where
    pub kind : step_kind i.op ≡ store
    pub no_result : m.is_local i.result ≡ false
    pub says : (v : ValueTree) → value_at s c.at.top (arg i 1) ≡ Some v → evaluate p calls e z ≡ got [] (typed (S t) v, z)
    pub writable : (r : Root) (at : List ℕ) → pointer_at s c.at.top n ≡ Some (r, at) → IsInput s r → ⊥

  module _ (t : Tree) (q : PointsTo p calls k m names s Holds f b keeps done i rest overrides key globals right c z stands t) (leads : PointerLeads p calls k m names s Holds f b keeps done i rest overrides key globals right c z stands) (e : Expr) (g : Stores t e) (lents : AreLent) where
    abbrev Goes : Root → ValueTree → Type 0
    Goes r whole = machine s c ≡ go [] (supplied (keeping r whole (advanced c.at rest)) c.answers)

    abbrev IsDone : Type 0
    IsDone = Follows (Supplied Conf) (machine s) State (Option Typed) (At m s Holds f b (i ∷ done) rest) (Never (Supplied Conf) (machine s) State (Option Typed)) (Never (Supplied Conf) (machine s) State (Option Typed)) (NeverGives (Supplied Conf) (machine s) State (Option Typed)) 0 k c (stmt_run p calls k (assign (lvalue left_name left_steps) e) z)

    -- the thing is a part of the text's variable
    pub record IsVariablePart (begin : ℕ) (way : List ℕ) : Type 0 where
      pub old : Option ValueTree
      pub place : or_stuck (named p z left_name) (λ (y : Thing). steps p calls y left_steps z) ≡ got [] (variable (m.name begin) way (S t) old, z)

    storing : (begin : ℕ) (way : List ℕ) (v : ValueTree) → IsVariablePart begin way → value_at s c.at.top (arg i 1) ≡ Some v → Storing p calls k m names s Holds f b (machine s) keeps done i rest c z left_name left_steps e (m.name begin) way v
    storing begin way v is has = record {
      stands = stands;
      no_outcome = ap has_outcome g.kind;
      no_result = g.no_result;
      shape = S t;
      same = shape_itself s key t q.sized;
      old = is.old;
      place = is.place;
      says = g.says v has;
    }

    by_own : (begin : ℕ) (way : List ℕ) (r : Root) (from at : List ℕ) (u : Tree) (v was whole : ValueTree) → IsOwn p m s W.source key globals begin u r from → at ≡ from ++ way → IsVariablePart begin way → value_at s c.at.top (arg i 1) ≡ Some v → kept s c.at r ≡ Some was → inserted v at was ≡ Some whole → Goes r whole → IsDone
    by_own begin way r from at u v was whole is along part has had into goes =
        let way_is : at ≡ way = along ∙ ap (λ l. l ++ way) is.whole in
        store_own_follows p calls k m names s Holds f b (machine s) keeps done i rest c z left_name left_steps e begin way v was whole (storing begin way v part has) is.is
        (sym (ap (kept s c.at) is.root) ∙ had) (ap (λ l. inserted v l was) (sym way_is) ∙ into) (subst (λ a. Goes a whole) is.root goes)

    by_private : (begin : ℕ) (way : List ℕ) (r : Root) (from at : List ℕ) (u : Tree) (v was whole : ValueTree) → IsPrivate p m s W.source key globals begin u r from → at ≡ from ++ way → IsVariablePart begin way → value_at s c.at.top (arg i 1) ≡ Some v → kept s c.at r ≡ Some was → inserted v at was ≡ Some whole → Goes r whole → IsDone
    by_private begin way r from at u v was whole is along part has had into goes =
        let way_is : at ≡ way = along ∙ ap (λ l. l ++ way) is.whole in
        let keeps_it : kept s c.at (global begin) ≡ c.at.privates begin
        = ap (option_and_then (global_value s c.at)) is.there ∙ ap (global_value_by s c.at is.inst) (ap class_of_number is.class) ∙ ap c.at.privates (variable_named s begin is.inst is.there) in
        store_private_follows p calls k m names s Holds f b (machine s) keeps done i rest c z left_name left_steps e begin way v was whole (storing begin way v part has) is.is
        (sym keeps_it ∙ sym (ap (kept s c.at) is.root) ∙ had) (ap (λ l. inserted v l was) (sym way_is) ∙ into) (λ a lent_to. lents.far a lent_to begin) (subst (λ a. Goes a whole) is.root goes)

    by_parameter : (begin : ℕ) (way : List ℕ) (r : Root) (from at : List ℕ) (u : Tree) (v was whole : ValueTree) → IsParameter p m s W.source key globals c.at begin u r from → at ≡ from ++ way → IsVariablePart begin way → value_at s c.at.top (arg i 1) ≡ Some v → kept s c.at r ≡ Some was → inserted v at was ≡ Some whole → Goes r whole → IsDone
    by_parameter begin way r from at u v was whole is along part has had into goes =
        let way_is : at ≡ way = along ∙ ap (λ l. l ++ way) is.whole in
        let kept_there : option_and_then (λ (g : Frame). g.variables is.of) (call_at is.depth c.at.below) ≡ Some was = sym (ap (kept s c.at) is.root) ∙ had in
        let call = call_there (call_at is.depth c.at.below) is.of was kept_there in
        let leads_to : c.at.top.ids begin ≡ Some (pointer r []) = is.leads ∙ ap (λ l. Some (pointer r l)) is.whole in
        store_lent_follows p calls k m names s Holds f b (machine s) keeps done i rest c z left_name left_steps e begin (lent is.depth is.of) way v was whole (keeping (lent is.depth is.of) whole (advanced c.at rest)) (storing begin way v part has) is.is
        (leads_to ∙ ap (λ a. Some (pointer a [])) is.root) (same_root (call_at is.depth c.at.below) is.of ∙ kept_there) (ap (λ l. inserted v l was) (sym way_is) ∙ into)
        (set_lent p calls k m names s Holds f b (machine s) keeps done i rest c.at is.depth is.of whole call.0 call.1)
        (λ a lent_to other. lents.no_two a begin (lent is.depth is.of) [] lent_to is.is other (leads_to ∙ ap (λ a. Some (pointer a [])) is.root)) (subst (λ a. Goes a whole) is.root goes)

    -- what others see is no variable of the text
    seen_shared : (begin : ℕ) (r : Root) (from : List ℕ) (u : Tree) → IsShared p m s W.source key globals begin u r from → seen s r ≡ None → ⊥
    seen_shared begin r from u is unseen = none_or_some (seen s r) is.inst unseen (ap (seen s) is.root ∙ ap (option_and_then seen_if) is.there ∙ ap (if_seen is.inst) (ap class_of_number is.class))

    seen_block : (begin : ℕ) (r : Root) (from : List ℕ) (u : Tree) → IsBlock p m s W.source key globals begin u r from → seen s r ≡ None → ⊥
    seen_block begin r from u is unseen = none_or_some (seen s r) is.inst unseen (ap (seen s) is.root ∙ ap (option_and_then seen_if) is.there ∙ by_class is.class)
      where
        by_class : (word is.inst 0 ≡ class_number storage.StorageBuffer) ⊎ ((word is.inst 0 ≡ class_number storage.Uniform) ⊎ (word is.inst 0 ≡ class_number storage.PushConstant)) → seen_if is.inst ≡ Some is.inst
        by_class (inl e) = ap (if_seen is.inst) (ap class_of_number e)
        by_class (inr (inl e)) = ap (if_seen is.inst) (ap class_of_number e)
        by_class (inr (inr e)) = ap (if_seen is.inst) (ap class_of_number e)

    by_start : (begin : ℕ) (way : List ℕ) (r : Root) (from at : List ℕ) (u : Tree) (v was whole : ValueTree) → IsStart p m s W.source key globals c.at begin u r from → at ≡ from ++ way → (IsVariable p m s W.source key globals begin u → IsVariablePart begin way) → seen s r ≡ None → (IsInput s r → ⊥) → value_at s c.at.top (arg i 1) ≡ Some v → kept s c.at r ≡ Some was → inserted v at was ≡ Some whole → Goes r whole → IsDone
    by_start begin way r from at u v was whole (inl is) along part unseen writable has had into goes = by_own begin way r from at u v was whole is along (part is.variable) has had into goes
    by_start begin way r from at u v was whole (inr (inl is)) along part unseen writable has had into goes = by_parameter begin way r from at u v was whole is along (part is.variable) has had into goes
    by_start begin way r from at u v was whole (inr (inr (inl is))) along part unseen writable has had into goes = by_private begin way r from at u v was whole is along (part is.variable) has had into goes
    by_start begin way r from at u v was whole (inr (inr (inr (inl is)))) along part unseen writable has had into goes = absurd (writable (subst (IsInput s) (sym is.root) (is.inst, is.there, is.class)))
    by_start begin way r from at u v was whole (inr (inr (inr (inr (inl is))))) along part unseen writable has had into goes = absurd (seen_shared begin r from u is unseen)
    by_start begin way r from at u v was whole (inr (inr (inr (inr (inr is))))) along part unseen writable has had into goes = absurd (seen_block begin r from u is unseen)

    own_part : (a : Target) → pointer_at s c.at.top n ≡ Some a → seen s a.0 ≡ None → (v was whole : ValueTree) → value_at s c.at.top (arg i 1) ≡ Some v → kept s c.at a.0 ≡ Some was → inserted v a.1 was ≡ Some whole → Goes a.0 whole → IsDone
    own_part a is unseen v was whole has had into goes =
        let l = leads a.0 a.1 is in
        by_thing l l.to refl (part_there p calls k m names s Holds f b keeps done i rest overrides key globals right c z stands t q a.0 a.1 l)
      where
        by_thing : (l : Leads p calls z m s overrides f key globals right c.at stands.agree.all b n a.0 a.1) (y : Thing) → l.to ≡ y → Part p calls k m names s Holds f b keeps done i rest overrides key globals right c z stands a.0 a.1 l t y → IsDone
        by_thing l (value (typed u w)) there part = absurd (g.writable a.0 a.1 is part.4)
        by_thing l (variable w way u o) there part =
            by_start l.begin way a.0 l.from a.1 l.begins.shape v was whole (l.begins.is a.0 l.from l.begin_is) part.4
            (λ (x : IsVariable p m s W.source key globals l.begin l.begins.shape). record {
              old = o;
              place = place_stands p calls z m s overrides f key globals right c.at stands.agree.all b n a.0 a.1 l ∙ ap (λ a. got [] (a, z)) there
                  ∙ ap (λ d. got [] (variable d way u o, z)) (part.3 ∙ ap (λ o. option_map_or name_in o (key (Id (id l.begin)))) x.itself ∙ sym x.named) ∙ ap (λ d. got [] (variable (m.name l.begin) way d o, z)) (only_shape s (struct_names key) t u (sized_lengths t q.sized) part.1);
            }) unseen (g.writable a.0 a.1 is) has had into goes
        by_thing l (instance at kind members) there part = absurd part
        by_thing l (memory at u) there part = absurd (none_or_some (seen s a.0) part.0 unseen part.1)

    -- OpStore
    pub writes_met : Writes p calls k m names s Holds f b keeps done i rest c z left_name left_steps e
    writes_met = record {
      shape = S t;
      same = shape_itself s key t q.sized;
      says = g.says;
      seen_part = writes_seen p calls k m names s Holds f b keeps done i rest overrides key globals right c z stands t q leads;
      own_part = own_part;
    }
