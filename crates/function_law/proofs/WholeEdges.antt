-- The moves that a plan makes of an edge do what the phis of its block do: all that is asked of an edge, where its phis have what the rules say.
use Rattle.std.proofs.Common.{◌≡◌, ℕ, true, false, List, [], ◌∷◌, map, filter, Option, Some, inl, inr, sym, ap, ◌∙◌, subst}
use Rattle.std.specs.Prelude.{All, slice_get}
use Rattle.std.specs.Option.{option_map_or}
use Rattle.std.proofs.lemmas.List.Elements.{All-nil, All-cons, All-filter, All-contains}
use Rattle.std.proofs.lemmas.List.Kept.{AllPairs-filter}
use Rattle.spv_module.specs.declared.inst.Inst.{Inst}
use Rattle.spv_module.specs.declared.inst.Block.{Block}
use Rattle.spv_module.specs.declared.inst.Function.{Function}
use Rattle.spv_types.specs.Tree.{ValueTree}
use Rattle.op_semantics.specs.Component.{each_one}
use Rattle.hoist_plan.specs.declared.form.Form.{Form}
use Rattle.phi_copies.specs.declared.moves.Move.{Move}
use Rattle.phi_copies.specs.Sequence.{Pair, target, is_proper, HaveOwnTargets, IsSequence}
use Rattle.phi_copies.specs.Meaning.{value as value_by}
use Rattle.phi_copies.proofs.Law.{sequence_law}
use Rattle.function_plan.specs.Phis.{pairs_into, pairs, firsts}
use Rattle.traces.specs.Outcomes.{Result, got}
use Rattle.module_semantics.specs.Setting.{Setting}
use Rattle.module_semantics.specs.State.{Conf}
use Rattle.module_semantics.specs.Steps.{phis, phi_value, label_of, present_label}
use Rattle.glsl_ast.specs.Tree.{Text, Stmt}
use Rattle.glsl_semantics.specs.Shapes.{Typed, typed}
use Rattle.glsl_semantics.specs.States.{State}
use Rattle.glsl_semantics.specs.Expressions.{Program, Argument, type_of, evaluate}
use Rattle.agree_law.specs.Agree.{Naming, AreApart, value_of, AgreeIn}
use Rattle.agree_law.specs.Blocks.{have_result}
use Rattle.agree_law.specs.Points.{behind, Body}
use Rattle.edge_law.specs.Copies.{EdgeNames, move_text, AreTyped, AllReads, SparesApart, V, ArePairs}
use Rattle.edge_law.proofs.Copies.{first_values, IsTaken, IsEdge}
use Rattle.edge_law.proofs.Pairs.{Told, pairs_tell}
use Rattle.edge_law.proofs.Sources.{all_read}
use Rattle.function_law.specs.Edges.{AreConstants, ArePhisOf}
use Rattle.function_law.proofs.EdgePairs.{pairs_are}
use Rattle.function_law.proofs.Firsts.{firsts_are}
use Rattle.function_law.proofs.PhiSources.{all_phis, given_each, own_targets}

-- the source of each pair has something
pairs_have : (m : Naming) (constants before : ℕ → V) (is : List Inst) (vs : List ValueTree) (ps : List Pair) → ArePairs m constants before is vs ps → All (λ (q : Pair). (u : ValueTree) × (value_by V constants before q.1 ≡ Some u)) ps
pairs_have m constants before [] [] [] are = All-nil (λ (q : Pair). (u : ValueTree) × (value_by V constants before q.1 ≡ Some u))
pairs_have m constants before [] [] (q ∷ ps) are = absurd are
pairs_have m constants before [] (v ∷ vs) ps are = absurd are
pairs_have m constants before (i ∷ is) [] ps are = absurd are
pairs_have m constants before (i ∷ is) (v ∷ vs) ps (inl are) = pairs_have m constants before is vs ps are.1
pairs_have m constants before (i ∷ is) (v ∷ vs) [] (inr are) = absurd are
pairs_have m constants before (i ∷ is) (v ∷ vs) (q ∷ ps) (inr are) = All-cons (λ (q : Pair). (u : ValueTree) × (value_by V constants before q.1 ≡ Some u)) q ps (v, are.1) (pairs_have m constants before is vs ps are.2)

module _ (p : Program) (calls : Text → List Argument → State → Result (Option Typed × State)) (k : ℕ) (m : Naming) (apart : AreApart m) (chains : (q j : ℕ) → m.is_kept q j ≡ true → m.is_outer q ≡ false) (s : Setting) (Holds : Conf → Type 0) (f : Function) (body : (b : ℕ) → Option (Body f b)) (gs : List Inst) (form : ℕ → Form) where
  -- The moves of a plan, as they are written, with what their expressions say and the rules ask of phis and constants.
  pub record IsPlannedEdge (b t : ℕ) (o : Body f b) (statements : List Stmt) : Type 0 where
    pub names : EdgeNames
    pub spares : SparesApart m names
    pub types : (j : ℕ) → type_of p (names.spare_type j) ≡ Some (names.spare_shape j)
    pub moves : List Move
    pub sequence : IsSequence (firsts (pairs gs form f b t)) moves
    pub written : statements ≡ map (move_text m names) moves
    pub typed_moves : AreTyped m names moves
    pub reads : AllReads m names (have_result (behind [] o.insts)) moves
    pub constants_say : (n : ℕ) (u : ValueTree) (c : Conf) (z : State) → names.is_constant n ≡ true → s.constants n ≡ Some u → AgreeIn m (have_result (behind [] o.insts)) c z → evaluate p calls (names.constant n) z ≡ got [] (typed (m.shape n) u, z)
    pub goes_to : Body f t
    pub there : body t ≡ Some goes_to
    pub phis_of : ArePhisOf m form f b goes_to.block
    pub constants_are : (from : Conf) → from.top.function ≡ f → Holds from → AreConstants gs s from.top s.constants

  module _ (b t : ℕ) (o : Body f b) (statements : List Stmt) (e : IsPlannedEdge b t o statements) where
    ps : List Pair
    ps = pairs_into gs form f b e.goes_to.block

    own : HaveOwnTargets ps
    unfolding ps
    own = own_targets m gs form f b e.goes_to.block e.phis_of

    sequence_is : IsSequence ps e.moves
    unfolding ps
    sequence_is = subst (λ qs. IsSequence qs e.moves) (ap (λ (o : Option Block). firsts (option_map_or (pairs_into gs form f b) o [])) e.goes_to.there ∙ firsts_are ps own) e.sequence

    Taken : Conf → Block → List ValueTree → Type 0
    Taken from block values = IsTaken p calls k m apart chains s Holds f body b t from block values

    label_is : (from : Conf) → from.top.function ≡ f → from.top.block ≡ b → present_label from.top ≡ e.phis_of.from.label.0
    label_is from function at = ap (λ (g : Function). label_of (slice_get g.blocks from.top.block)) function ∙ (ap (λ n. label_of (slice_get f.blocks n)) at ∙ ap label_of e.phis_of.there)

    are : (from : Conf) (block : Block) (values : List ValueTree) → IsTaken p calls k m apart chains s Holds f body b t from block values → e.goes_to.block ≡ block → ArePairs m s.constants (value_of from) (phis e.goes_to.block) values ps
    unfolding ps
    are from block values taken same =
        pairs_are m s gs form f b e.phis_of.from.label.0 from s.constants (e.constants_are from taken.function taken.holds) e.goes_to.block values (all_phis m gs form f b e.goes_to.block e.phis_of) (given_each m gs form f b e.goes_to.block e.phis_of)
        (subst (λ l. each_one (phi_value s from.top l) (phis e.goes_to.block) ≡ Some values) (label_is from taken.function taken.at) (subst (λ (x : Block). each_one (phi_value s from.top (present_label from.top)) (phis x) ≡ Some values) (sym same) taken.sources))

    block_same : (from : Conf) (block : Block) (values : List ValueTree) → IsTaken p calls k m apart chains s Holds f body b t from block values → e.goes_to.block ≡ block
    block_same from block values taken = let both : Some e.goes_to.block ≡ Some block = sym e.goes_to.there ∙ taken.there in let one : e.goes_to.block ≡ block = cc in one

    abbrev Has : Conf → Pair → Type 0
    Has from q = (u : ValueTree) × (value_by V s.constants (value_of from) q.1 ≡ Some u)

    -- all that is asked of an edge
    pub edge_whole : IsEdge p calls k m apart chains s Holds f body b t o statements
    edge_whole = record {
      names = e.names;
      spares = e.spares;
      types = e.types;
      moves = e.moves;
      written = e.written;
      typed_moves = e.typed_moves;
      reads = e.reads;
      constants = s.constants;
      constants_say = e.constants_say;
      pairs = ps;
      at_once = λ st. sequence_law V ps e.moves own sequence_is s.constants st;
      goes_to = e.goes_to;
      there = e.there;
      each = λ from block values taken n outer.
          let same : e.goes_to.block ≡ block = block_same from block values taken in
          subst (λ (x : Block). Told m s.constants (value_of from) (phis x) values ps from.top.ids n) same (pairs_tell m s.constants (value_of from) (phis e.goes_to.block) values ps from.top.ids (are from block values taken same) n outer);
      all_read = λ from block values taken.
          let same : e.goes_to.block ≡ block = block_same from block values taken in
          let have : All (Has from) (filter is_proper ps) = All-filter is_proper (Has from) ps (pairs_have m s.constants (value_of from) (phis e.goes_to.block) values ps (are from block values taken same)) in
          all_read s.constants (filter is_proper ps) (first_values from) (AllPairs-filter (λ (p : Pair) (q : Pair). target p ≡ target q → ⊥) is_proper ps own) (λ q here. All-contains (Has from) (filter is_proper ps) q have here) e.moves sequence_is.next;
    }
