-- The path of a pointer, as it is written: of words that are declared, where its chains' indexes are written.
use Rattle.std.proofs.Common.{◌≡◌, ◌+◌, ◌++◌, ℕ, true, false, List, [], ◌∷◌, Option, Some, refl, sym, ap, ◌∙◌, subst}
use Rattle.std.specs.Prelude.{drop, option_and_then, slice_get, unwrap_or}
use Rattle.std.specs.Option.{option_map_or}
use Rattle.std.specs.List.{list_any}
use Rattle.spv_ops.specs.Groups.{is_chain}
use Rattle.spv_module.specs.declared.inst.Inst.{Inst}
use Rattle.spv_module.specs.declared.inst.Block.{Block}
use Rattle.spv_module.specs.declared.inst.Function.{Function}
use Rattle.spv_types.specs.Tree.{Tree}
use Rattle.spv_types.specs.Types.{type_tree}
use Rattle.spv_decor.specs.Rows.{word}
use Rattle.spv_index.specs.Locals.{insts_of, type_in}
use Rattle.spv_index.specs.Pointers.{pointee, storage_class, pointee_of}
use Rattle.spv_index.specs.Steps.{step_type}
use Rattle.profile_rules.specs.declared.needs.Reached.{Reached}
use Rattle.profile_rules.specs.declared.needs.Reached.TheVariants.{Part, Nothing, Unknown}
use Rattle.profile_rules.specs.TypeRows.{is_pointer, is_int, is_not, differ, fails, value_fails}
use Rattle.profile_rules.specs.ValueRules.{walk, chain_step, chain_end, is_other_pointer, leads_elsewhere, breaks_t6}
use Rattle.conformance.specs.Rules.{Options}
use Rattle.module_semantics.specs.Setting.{Setting}
use Rattle.access_paths.specs.declared.forms.Step.{Step}
use Rattle.access_paths.specs.Ways.{Way, Spot, base, indexes, step, steps_from, spot_of, path}
use Rattle.glsl_ast.specs.Tree.{Expr, TranslationUnit, LStep}
use Rattle.expr_forward.specs.Scope.{Setting as Place}
use Rattle.expr_forward.specs.Paths as paths
use Rattle.expr_forward.specs.Paths.{base_text, step_text, steps_text, place_text}
use Rattle.unit_rules.specs.Unit.{IsUnitOf}
use Rattle.name_alloc.specs.Naming.{name_of}
use Rattle.list_law.proofs.Tests.{clash}
use Rattle.claim_law.specs.Uses.{Words, UseSteps, UsesLValue}
use Rattle.type_law.proofs.Chains.{HaveTypes}
use Rattle.type_law.proofs.Vectors.{three_off}
use Rattle.type_law.proofs.Choices.{same_rows}
use Rattle.agree_law.specs.Blocks.{IsOf}
use Rattle.global_law.specs.Chains.{ChainsRise, NoneMakes}
use Rattle.global_law.proofs.Path.Ways.{start_way, chain_way}
use Rattle.typed_law.specs.Conforms.{IsConforming}
use Rattle.grammar_law.specs.Words.{words_of}
use Rattle.grammar_law.proofs.Unit.Parts.{Here}
use Rattle.grammar_law.proofs.Unit.Steps.{HasMembers, IsWritable, one_step}

pub nothing_left : (f : ℕ → ℕ → Reached) (ids : List ℕ) → walk f Nothing ids ≡ Nothing
nothing_left f [] = refl
nothing_left f (id ∷ ids) = nothing_left f ids

not_nothing : (gs : List Inst) (ty : ℕ) (class : Option ℕ) (r : Reached) → leads_elsewhere gs ty class r ≡ false → r ≡ Nothing → ⊥
not_nothing gs ty class r e is = clash (sym (ap (leads_elsewhere gs ty class) is) ∙ e)

at_part : (gs : List Inst) (ty : ℕ) (class : Option ℕ) (r : Reached) (to : ℕ) → leads_elsewhere gs ty class r ≡ false → r ≡ Part to → is_other_pointer gs ty class to ≡ false
at_part gs ty class r to e is = sym (ap (leads_elsewhere gs ty class) is) ∙ e

more_uses : (W : Words) (xs ys : List LStep) → UseSteps W xs → UseSteps W ys → UseSteps W (xs ++ ys)
more_uses W [] ys one two = two
more_uses W (LStep.member m ∷ xs) ys one two = (one.0, more_uses W xs ys one.1 two)
more_uses W (LStep.index e ∷ xs) ys one two = (one.0, more_uses W xs ys one.1 two)

module _ (s : Setting) (entry : Option (List ℕ)) (right : IsConforming s.of entry) (f : Function) (o : Options) (unit : TranslationUnit) (u : IsUnitOf s.of o unit) (names : List (List ℕ)) (read : ℕ → Option Expr) where
  abbrev Gs : List Inst
  Gs = s.of.globals

  abbrev T : ℕ → Option ℕ
  T = type_in s.of.globals f

  abbrev W : Words
  W = words_of s.of.globals (name_of u.claimed) names

  abbrev Site : Place
  Site = Here s entry right f o unit u names read

  abbrev Members : ℕ → Tree → Type 0
  Members = HasMembers s entry right f o unit u names read

  -- the type to which steps lead, as they are written
  abbrev pub way_to : ℕ → List Step → ℕ
  way_to ty [] = ty
  way_to ty (q ∷ qs) = way_to (paths.step_type Site ty q) qs

  way_more : (ty : ℕ) (qs rs : List Step) → way_to ty (qs ++ rs) ≡ way_to (way_to ty qs) rs
  way_more ty [] rs = refl
  way_more ty (q ∷ qs) rs = way_more (paths.step_type Site ty q) qs rs

  steps_more : (ty : ℕ) (qs rs : List Step) → steps_text Site ty (qs ++ rs) ≡ steps_text Site ty qs ++ steps_text Site (way_to ty qs) rs
  steps_more ty [] rs = refl
  steps_more ty (q ∷ qs) rs = ap (λ l. step_text Site ty q ∷ l) (steps_more (paths.step_type Site ty q) qs rs)

  -- steps that follow others
  joined_ends : (from to : ℕ) (ps qs rs : List Step) → rs ≡ ps ++ qs → way_to from ps ≡ to → way_to from rs ≡ way_to to qs
  joined_ends from to ps qs rs is ends = ap (way_to from) is ∙ (way_more from ps qs ∙ ap (λ (x : ℕ). way_to x qs) ends)

  joined_uses : (from to : ℕ) (ps qs rs : List Step) → rs ≡ ps ++ qs → way_to from ps ≡ to → UseSteps W (steps_text Site from ps) → UseSteps W (steps_text Site to qs) → UseSteps W (steps_text Site from rs)
  joined_uses from to ps qs rs is ends one two =
      subst (λ (l : List LStep). UseSteps W l) (sym (ap (steps_text Site from) is ∙ (steps_more from ps qs ∙ ap (λ (x : ℕ). steps_text Site from ps ++ steps_text Site x qs) ends)))
      (more_uses W (steps_text Site from ps) (steps_text Site to qs) one two)

  -- each of these indexes is written, the first with this number
  abbrev pub AreWritable : Spot → ℕ → List ℕ → Type 0
  AreWritable spot k [] = Unit {0}
  AreWritable spot k (n ∷ ns) = IsWritable s entry right f o unit u names read spot k n × AreWritable spot (k + 1) ns

  -- indexes lead from a type to a part
  pub record IsWalk (spot : Spot) (k ty : ℕ) (ns : List ℕ) : Type 0 where
    pub to : ℕ
    pub whole : Tree
    pub leads : walk (chain_step Gs T) (Part ty) ns ≡ Part to
    pub ends : way_to ty (steps_from Gs spot k (Some ty) ns) ≡ to
    pub members : Members to whole
    pub uses : UseSteps W (steps_text Site ty (steps_from Gs spot k (Some ty) ns))

  pub all_steps : (spot : Spot) (k ty : ℕ) (ns : List ℕ) (t : Tree) → Members ty t → AreWritable spot k ns → HaveTypes s f ns → (walk (chain_step Gs T) (Part ty) ns ≡ Nothing → ⊥) → IsWalk spot k ty ns
  all_steps spot k ty [] t has writable typed leads = record { to = ty; whole = t; leads = refl; ends = refl; members = has; uses = tt }
  all_steps spot k ty (n ∷ ns) t has writable typed leads =
      let one = one_step s entry right f o unit u names read spot k ty n t has writable.0 typed.0 (λ none. leads (ap (λ (r : Reached). walk (chain_step Gs T) r ns) none ∙ nothing_left (chain_step Gs T) ns)) in
      let led : walk (chain_step Gs T) (Part ty) (n ∷ ns) ≡ walk (chain_step Gs T) (Part one.to) ns = ap (λ (r : Reached). walk (chain_step Gs T) r ns) one.leads in
      let rest = all_steps spot (k + 1) one.to ns one.whole one.members writable.1 typed.1 (λ none. leads (led ∙ none)) in
      let later : steps_from Gs spot (k + 1) (step_type Gs n ty) ns ≡ steps_from Gs spot (k + 1) (Some one.to) ns = ap (λ (q : Option ℕ). steps_from Gs spot (k + 1) q ns) one.next in
      record {
        to = rest.to;
        whole = rest.whole;
        leads = led ∙ rest.leads;
        ends = ap (way_to (paths.step_type Site ty (step Gs spot k n (Some ty)))) later ∙ (ap (λ (x : ℕ). way_to x (steps_from Gs spot (k + 1) (Some one.to) ns)) one.text_type ∙ rest.ends);
        members = rest.members;
        uses = one.uses (steps_text Site (paths.step_type Site ty (step Gs spot k n (Some ty))) (steps_from Gs spot (k + 1) (step_type Gs n ty) ns))
            (subst (λ (l : List LStep). UseSteps W l) (sym (ap (steps_text Site (paths.step_type Site ty (step Gs spot k n (Some ty)))) later ∙ ap (λ (x : ℕ). steps_text Site x (steps_from Gs spot (k + 1) (Some one.to) ns)) one.text_type)) rest.uses);
      }

  -- a pointer's path is written of words that are declared, where it is printed
  pub record HasWay (printed n : ℕ) : Type 0 where
    pub from : ℕ
    pub to : ℕ
    pub whole : Tree
    pub starts : pointee_of Gs f (path Gs f printed n).base ≡ Some from
    pub ends : way_to from (path Gs f printed n).steps ≡ to
    pub points : pointee_of Gs f n ≡ Some to
    pub members : Members to whole
    pub named : W.value (base_text Site (path Gs f printed n).base)
    pub uses : UseSteps W (steps_text Site from (path Gs f printed n).steps)

  -- so is what is written of it
  pub place_uses : (printed n : ℕ) → HasWay printed n → UsesLValue W (place_text Site printed n)
  place_uses printed n way = (way.named, subst (λ (x : ℕ). UseSteps W (steps_text Site x (path Gs f printed n).steps)) (sym (ap (λ (q : Option ℕ). unwrap_or q 0) way.starts)) way.uses)

  -- a pointer that no chain makes
  pub start_has : (printed n ty : ℕ) (t : Tree) → NoneMakes n (insts_of f) → pointee_of Gs f n ≡ Some ty → Members ty t → W.value (base_text Site n) → HasWay printed n
  start_has printed n ty t none points has named =
      let is = start_way Gs f printed n none in
      let based : (path Gs f printed n).base ≡ n = ap (λ (w : Way). w.base) is in
      let no_steps : (path Gs f printed n).steps ≡ [] = ap (λ (w : Way). w.steps) is in
      record {
        from = ty;
        to = ty;
        whole = t;
        starts = ap (pointee_of Gs f) based ∙ points;
        ends = ap (way_to ty) no_steps;
        points = points;
        members = has;
        named = subst (λ (x : ℕ). W.value (base_text Site x)) (sym based) named;
        uses = subst (λ (l : List Step). UseSteps W (steps_text Site ty l)) (sym no_steps) tt;
      }

  -- and one that a chain makes, where its base has a path and its indexes are written
  pub chain_has : (printed t : ℕ) (b : Block) (i : Inst) → ChainsRise (insts_of f) → slice_get f.blocks t ≡ Some b → IsOf i b.insts → is_chain i.op ≡ true → HasWay printed (base i) → AreWritable (spot_of printed (t, i)) 0 (indexes i) → HaveTypes s f (indexes i)
      → breaks_t6 Gs T i ≡ false → T i.result ≡ Some i.ty → (fails is_pointer Gs i.ty ≡ false → (q : ℕ) × (v : Tree) × (pointee Gs i.ty ≡ Some q) × (type_tree Gs q ≡ Some v)) → HasWay printed i.result
  chain_has printed t b i rise there among on way writable typed off own points =
      let spot = spot_of printed (t, i) in
      let is = chain_way Gs f printed t b i rise there among on in
      let based : (path Gs f printed i.result).base ≡ (path Gs f printed (base i)).base = ap (λ (w : Way). w.base) is in
      let ss = steps_from Gs spot 0 (Some way.to) (indexes i) in
      let stepped : (path Gs f printed i.result).steps ≡ (path Gs f printed (base i)).steps ++ ss = ap (λ (w : Way). w.steps) is ∙ ap (λ (q : Option ℕ). (path Gs f printed (base i)).steps ++ steps_from Gs spot 0 q (indexes i)) way.points in
      let offs = three_off (value_fails is_pointer Gs T (word i 0)) (list_any (value_fails is_int Gs T) (drop 1 i.args)) (leads_elsewhere Gs i.ty (option_and_then (storage_class Gs) (T (word i 0))) (chain_end Gs T i)) off in
      let reached : leads_elsewhere Gs i.ty (option_and_then (storage_class Gs) (T (word i 0))) (walk (chain_step Gs T) (Part way.to) (indexes i)) ≡ false
      = ap (λ (q : Option ℕ). leads_elsewhere Gs i.ty (option_and_then (storage_class Gs) (T (word i 0))) (walk (chain_step Gs T) (option_map_or Part q Unknown) (indexes i))) (sym way.points) ∙ offs.2 in
      let led = all_steps spot 0 way.to (indexes i) way.whole way.members writable typed (not_nothing Gs i.ty (option_and_then (storage_class Gs) (T (word i 0))) (walk (chain_step Gs T) (Part way.to) (indexes i)) reached) in
      let part : is_other_pointer Gs i.ty (option_and_then (storage_class Gs) (T (word i 0))) led.to ≡ false = at_part Gs i.ty (option_and_then (storage_class Gs) (T (word i 0))) (walk (chain_step Gs T) (Part way.to) (indexes i)) led.to reached led.leads in
      let parts = three_off (fails is_pointer Gs i.ty) (option_map_or (λ (c : ℕ). is_not c (storage_class Gs i.ty)) (option_and_then (storage_class Gs) (T (word i 0))) false) (option_map_or (differ Gs led.to) (pointee Gs i.ty) false) part in
      let q = points parts.0 in
      let same : led.to ≡ q.0 = same_rows s f led.to q.0 led.whole q.1 led.members.shaped q.3 (ap (λ (x : Option ℕ). option_map_or (differ Gs led.to) x false) (sym q.2) ∙ parts.2) in
      record {
        from = way.from;
        to = led.to;
        whole = led.whole;
        starts = ap (pointee_of Gs f) based ∙ way.starts;
        ends = joined_ends way.from way.to (path Gs f printed (base i)).steps ss (path Gs f printed i.result).steps stepped way.ends ∙ led.ends;
        points = ap (option_and_then (pointee Gs)) own ∙ (q.2 ∙ ap (λ (x : ℕ). Some x) (sym same));
        members = led.members;
        named = subst (λ (x : ℕ). W.value (base_text Site x)) (sym based) way.named;
        uses = joined_uses way.from way.to (path Gs f printed (base i)).steps ss (path Gs f printed i.result).steps stepped way.ends way.uses led.uses;
      }
