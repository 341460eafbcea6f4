use Rattle.std.proofs.Common.{rules, ◌≡◌, map, ℕ, Bool, ◌+◌, ◌<◌, List, [], ◌∷◌, ◌++◌, slice_index_or, Bor, ap, ap₂, sym, ◌∙◌, length, take, append_assoc, append-nil}
use Rattle.std.proofs.lemmas.List.{map-append, map_more, take_all}
use Rattle.clap.specs.Words.{app_of, rule_of, with_rule}
use Rattle.clap.specs.Simple.{App, on_top}
use Rattle.clap.specs.Walk.{Text, Rule}
use Rattle.nb_words.specs.Table as table
use Rattle.nb_words.proofs.table.with_positions.Goals as goal

-- with rules behind its own
with_rules : App → List Rule → App
with_rules command rules = on_top (λ s. record s { rules = rules }) command

-- one position more
grown : (command : App) (ids : List (Bor Text)) (required : Bool) (i : ℕ) (d id : Bor Text) → i < length ids → id ≡ slice_index_or ids i d
    → with_rule (table.with_positions command (map (λ id. id.now) (take i ids)) required) (table.position required id.now)
    ≡ table.with_positions command (map (λ id. id.now) (take (i + 1) ids)) required
unfolding with_rules
grown command ids required i d id within is =
    let position = table.position required in
    let before : List Text = map (λ id. id.now) (take i ids) in
    let rules : map position before ++ position id.now ∷ [] ≡ map position (map (λ id. id.now) (take (i + 1) ids)) =
    ap (λ (other : Bor Text). map position before ++ position other.now ∷ []) is
    ∙ sym (map-append position before ((slice_index_or ids i d).now ∷ []))
    ∙ ap (map position) (sym (map_more (λ id. id.now) ids i d within)) in
    ap (with_rules command) (append_assoc command.top.rules (map position before) (position id.now ∷ []) ∙ ap (λ (rs : List Rule). command.top.rules ++ rs) rules)

pub adding-init : goal.adding-init
unfolding with_rules
adding-init c = ap (with_rules (app_of c.args.command)) (sym (append-nil (app_of c.args.command).top.rules))

pub adding-preserved : goal.adding-preserved
adding-preserved c =
    let rule : rule_of c.required.result ≡ table.position c.args.required c.new.result.id.now = search rules in
    c.in_ok-more.ensures.shape (search rules) ∙ ap₂ with_rule c.adding.invariant rule
    ∙ grown (app_of c.args.command) c.args.positions.now c.args.required c.adding.position-index _ c.new.result.id c.adding-test.true c.new.ensures.id

pub returns : goal.returns
returns c =
    c.adding.invariant
    ∙ ap (λ (ids : List (Bor Text)). table.with_positions (app_of c.args.command) (map (λ id. id.now) ids) c.args.required) (take_all c.adding.position-index c.args.positions.now c.adding-test.false)
