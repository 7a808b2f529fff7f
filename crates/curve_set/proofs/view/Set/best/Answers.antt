use Rattle.std.proofs.Common.{◌≡◌, ◌≤◌, ◌∙◌, sym, None, filter, option_map, arith, rules}
use Rattle.std.specs.List.{fold, range_with_len}
use Rattle.std.proofs.lemmas.Iterator.{YieldsList-from_range}
use Rattle.std.proofs.lemmas.Iterator.Consumers.{YieldsList-from_filter, fold_from_yields_List}
use borrow.Author.Tests.{tests}
use Rattle.curve_set.specs.Layout.{count_of, set_of}
use Rattle.curve_set.specs.Best.{is_hit_at}
use Rattle.curve_set.proofs.Read.{length-set}
use Rattle.curve_set.proofs.Choosing.{best_so_far, nearer_at, best_chained, best_within, best_word_is, place_within}
use Rattle.curve_set.proofs.view.Set.best.Goals as goal

pub returns : goal.returns
returns c =
    let f = c.args.self.now.floats.now in
    let w = c.args.self.now.words.now in
    let s = set_of f w in
    let n = count_of w in
    let chain : c.fold.result ≡ fold (nearer_at f w) None (filter (is_hit_at w) (range_with_len 0 n)) =
    fold_from_yields_List _ (nearer_at f w) None c.fold.result c.fold.ensures.ran
    (YieldsList-from_filter _ (is_hit_at w) (YieldsList-from_range 0 n n (cc) (omega arith)) c.filter.ensures.closure (λ x b q k. search (rules, tests)))
    (λ a x b q k. search (rules, tests))
    in
    let best : c.fold.result ≡ best_so_far s n = chain ∙ best_chained f w n (omega arith) in
    let place : c.map.result ≡ option_map (λ x. x.0) c.fold.result = search rules in
    let few : n ≤ 64 = omega arith in
    record {
      word = best_word_is s c.map.result c.fold.result n (sym (length-set f w)) best place;
      within = place_within 64 c.map.result c.fold.result place (rw best (best_within s 64 n few));
    }
