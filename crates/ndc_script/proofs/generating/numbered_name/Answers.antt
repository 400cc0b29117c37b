use Rattle.ndc_script.proofs.Generated.{front-decimal}
use Rattle.ndc_script.proofs.generating.numbered_name.Goals as goal

pub name_of-requires : goal.name_of-requires
name_of-requires c =
    rw (c.as_slice.ensures.value, c.in_ok-text.ensures)
    (front-decimal c.args.front.now c.args.number c.requires.bytes c.requires.short c.requires.small)
