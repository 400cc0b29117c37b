use Rattle.ndc_probe.proofs.fault.tell_script.Goals as goal

pub returns-clause-whole : goal.returns-clause-whole
returns-clause-whole g c =
    rw (c.as_slice.ensures, c.as_bytes-number.ensures.value, c.format.ensures.text, c.as_slice-2.ensures, c.as_bytes.ensures.value, c.script_cause_name.ensures, c.as_slice-3.ensures)
    at c.write_pieces.ensures.whole

pub returns-clause-front : goal.returns-clause-front
returns-clause-front g c =
    rw (c.as_slice.ensures, c.as_bytes-number.ensures.value, c.format.ensures.text, c.as_slice-2.ensures, c.as_bytes.ensures.value, c.script_cause_name.ensures, c.as_slice-3.ensures)
    at c.write_pieces.ensures.front
