use Rattle.std.proofs.Common.{◌≡◌, ◌∙◌, ap, rules}
use Rattle.curve_set.specs.Layout.{set_of}
use Rattle.curve_set.specs.Best.{place_word, best_word, refreshed}
use Rattle.curve_set.specs.Lent.{lent, holding}
use Rattle.curve_set.proofs.edits.SetMut.choose.Goals as goal

pub returns : goal.returns
unfolding refreshed
returns c =
    let s = c.args.self.now in
    let word : c.map_or-word.result ≡ place_word c.best.result = search rules in
    let best : c.map_or-word.result ≡ best_word (set_of s.floats.now s.words.now) = rw (← c.view.ensures.floats, ← c.view.ensures.words) (word ∙ c.best.ensures.word) in
    let words : c.copy.new.list ≡ refreshed s.floats.now s.words.now = rw (c.copy.ensures, best) in
    ap (λ w. holding s (lent s.floats.now w)) words
