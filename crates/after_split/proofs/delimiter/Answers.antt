use mathlib.Core.Path.{ap, ◌∙◌}
use Rattle.rules.specs.Text.{or_else}
use Rattle.table.specs.Held.{settings_of}
use Rattle.table.specs.declared.records.Settings.{Settings}
use Rattle.after_split.proofs.delimiter.Goals as goal

pub returns : goal.returns
unfolding settings_of
returns c =
    let own = c.args.c.now.delimiter in
    let of_table = c.unwrap_or.ensures ∙ c.set-2.ensures 32 ∙ ap (λ (x : Settings). or_else x.delimiter 32) c.settings-table.ensures in
    c.unwrap_or-2.ensures ∙ c.set.ensures c.unwrap_or.result ∙ ap (or_else own) of_table
