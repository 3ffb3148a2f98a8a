use Rattle.std.proofs.Common.{◌≡◌, ◌+◌, ◌∙◌, ap, sym, rules}
use Rattle.std.proofs.lemmas.Iterator.{YieldsList-from_slice}
use Rattle.std.proofs.lemmas.Iterator.Consumers.{count_from_yields_List}
use Rattle.std.proofs.lemmas.Iterator.Search.{YieldsList-from_take_while}
use Rattle.std.proofs.lemmas.List.Folds.{length-prefix_len}
use Rattle.lines.specs.Bytes.{run}
use Rattle.lines.proofs.Laws.{run-prefix_len}
use Rattle.words.proofs.end_of.Goals as goal

pub returns : goal.returns
returns g c p k =
    let counted : c.count.result ≡ run p c.rest.result.now =
    count_from_yields_List _ _ c.count.ensures.ran
    (YieldsList-from_take_while _ p (YieldsList-from_slice c.rest.result.now (cc))
    c.take_while.ensures.closure c.take_while.ensures.done (λ x b q m. search (rules, k)))
    ∙ length-prefix_len p _ ∙ sym (run-prefix_len p _) in
    ap (λ n. c.args.at + n) (counted ∙ ap (run p) c.rest.ensures)
