-- The functions that were judged, one by one.
use Rattle.std.proofs.Common.{◌≡◌, ◌∙◌, ℕ, ◌+◌, ◌++◌, ◌<◌, ◌≤◌, List, [], ◌∷◌, length, map, get_or, take, sym, subst, ap}
use Rattle.std.proofs.lemmas.List.{take_all, map_more}
use Rattle.std.proofs.lemmas.List.Elements.{All-more}
use Rattle.std.specs.List.{All}
use Rattle.spv_words.specs.declared.rule.Fault.{Fault}
use Rattle.spv_module.specs.declared.inst.Function.{Function}
use Rattle.structure_rules.specs.declared.graph.Node.{Node}
use Rattle.structure_rules.specs.Graph.{graph}
use Rattle.structure_rules.specs.Structure.{IsRightStructure}
use Rattle.module_check.specs.Structure.{IsStructured, AreStructured, IsUnstructured}

pub structured_more : (fs : List Function) (i : ℕ) (f : Function) → i < length fs → f ≡ get_or fs i f → All IsStructured (take i fs) → IsStructured f → All IsStructured (take (i + 1) fs)
structured_more fs i f inside own before here = All-more IsStructured fs i f inside before (subst IsStructured own here)

pub structured_all : (fs : List Function) (i : ℕ) → length fs ≤ i → All IsStructured (take i fs) → AreStructured fs
structured_all fs i past before = subst (λ (l : List Function). All IsStructured l) (take_all i fs past) before

pub unstructured : (fs : List Function) (i : ℕ) (f : Function) (fault : Fault) → i < length fs → f ≡ get_or fs i f → IsRightStructure f fault → IsUnstructured fs fault
unstructured fs i f fault inside own right = (f, (i, inside, sym own), right)

-- the graphs of one function more
pub graphs_more : (fs : List Function) (i : ℕ) (f : Function) (before after : List (List Node)) (g : List Node) → i < length fs → f ≡ get_or fs i f → before ≡ map graph (take i fs) → g ≡ graph f → after ≡ before ++ g ∷ [] → after ≡ map graph (take (i + 1) fs)
graphs_more fs i f before after g inside own known made more =
    more ∙ ap (λ (l : List (List Node)). l ++ g ∷ []) known ∙ ap (λ (n : List Node). map graph (take i fs) ++ n ∷ []) (made ∙ ap graph own) ∙ sym (map_more graph fs i f inside)
