use Rattle.ndc_dump.proofs.faults.tell_batch.Goals as goal

pub returns-clause-whole : goal.returns-clause-whole
returns-clause-whole g c =
    rw (c.as_slice.ensures, c.as_bytes-version.ensures.value, c.format.ensures.text, c.as_slice-2.ensures, c.as_bytes-task.ensures.value, c.format-2.ensures.text, c.as_slice-3.ensures, c.as_bytes.ensures.value, c.key_cause_name.ensures, c.as_slice-4.ensures)
    at c.write_pieces.ensures.whole

pub returns-clause-front : goal.returns-clause-front
returns-clause-front g c =
    rw (c.as_slice.ensures, c.as_bytes-version.ensures.value, c.format.ensures.text, c.as_slice-2.ensures, c.as_bytes-task.ensures.value, c.format-2.ensures.text, c.as_slice-3.ensures, c.as_bytes.ensures.value, c.key_cause_name.ensures, c.as_slice-4.ensures)
    at c.write_pieces.ensures.front
